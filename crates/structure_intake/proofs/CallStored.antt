-- What a call leaves in the names of a chain list, stored into the list, is what the call leaves in the list.
use mathlib.Core.Path.{◌≡◌, ap, ◌∙◌}
use mathlib.Core.Bool.{Bool, true, false, cond}
use Prim.Native.Nat.{ℕ}
use mathlib.Core.List.{List}
use lib.ListN.{length, take}
use Rattle.rows.specs.Settings.{assuming}
use Rattle.model.specs.Lent.{Lent, room_of, empty_model}
use Rattle.model.specs.declared.room.Room.{Room}
use Rattle.results.specs.Results.{is_whole}
use Rattle.chains.specs.declared.chain.Chain.{Chain}
use Rattle.chains.specs.Names.{names_in, named}
use Rattle.structures.proofs.StoredIsHeld.{room_stored, holding_stored, none_stored}
use Rattle.structures.proofs.WithChains.{with_chains}
use Rattle.service.specs.Serving.{Serving, served, refused, serve_of, left_in}
use Rattle.structure_intake.specs.Calls.{renewed_in, status_by, records_by, buffer_by, result_by, Calls}

pub call_stored : (ys : List Chain) (names₀ names₁ : List ℕ) (l l' : Lent) (text out result : List ℕ) (status : ℕ) (bytes numbers : List ℕ) → length names₀ ≡ 4096 → length names₁ ≡ 4096
    → Calls (with_chains l (take (length ys) names₀)) text out result status (with_chains l' (take (length ys) names₁)) bytes numbers
    → Calls (with_chains l (names_in ys)) text out result status (with_chains l' (names_in (named ys names₁ (renewed_in (length result) (length ys))))) bytes numbers
unfolding records_by
call_stored ys names₀ names₁ l l' text out result status bytes numbers long₀ long₁ calls =
    let e = ap (λ (room : Room). serve_of assuming room (length out) text) (room_stored ys names₀ l long₀) in
    record {
      answered = calls.answered ∙ ap (status_by result) e;
      left = records (is_whole result) (serve_of assuming (room_of (with_chains l (take (length ys) names₀))) (length out) text) calls.left ∙ ap (records_by (with_chains l (names_in ys)) result) e;
      written = calls.written ∙ ap (buffer_by out result) e;
      told = calls.told ∙ ap (result_by result) e;
    }
  where
    held : (serving : Serving) → with_chains l' (take (length ys) names₁) ≡ left_in (with_chains l (take (length ys) names₀)) serving
        → with_chains l' (names_in (named ys names₁ (length ys))) ≡ left_in (with_chains l (names_in ys)) serving
    held (served text m counts) = holding_stored ys names₀ names₁ l l' long₀ long₁ m
    held (refused why) = holding_stored ys names₀ names₁ l l' long₀ long₁ empty_model

    records : (whole : Bool) (serving : Serving)
        → with_chains l' (take (length ys) names₁) ≡ cond whole (left_in (with_chains l (take (length ys) names₀)) serving) (with_chains l (take (length ys) names₀))
        → with_chains l' (names_in (named ys names₁ (cond whole (length ys) 0))) ≡ cond whole (left_in (with_chains l (names_in ys)) serving) (with_chains l (names_in ys))
    records true serving e = held serving e
    records false serving e =
        ap (λ (chains : List Chain). with_chains l' (names_in chains)) (none_stored ys names₁) ∙ ap (λ (x : Lent). with_chains x (names_in ys)) e

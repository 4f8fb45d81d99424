-- Texts put one after the other are their texts joined; a text that was placed, or had no room, is put.
use mathlib.Core.Path.{◌≡◌, refl, ap, ◌∙◌}
use mathlib.Core.Bool.{Bool, true, false}
use mathlib.Core.List.{List, ◌++◌}
use Prim.Native.Nat.{ℕ, ◌+◌, ◌^◌, ◌≤◌, ◌<◌}
use native.Mathlib.Omega.{arith}
use lib.ListN.{length, length-append}
use lib.Seq.{sets, length-sets}
use borrow.Author.Tests.{le-leb}
use Rattle.std.specs.Prelude.{Result}
use Rattle.ascii.specs.Output.{Stored, fits, placed_of, buffer_after}
use Rattle.ascii.specs.declared.output.NoRoom.{NoRoom}
use Rattle.ascii.proofs.OutputLaws.{placed_fits, placed_not, after_fits, after_not, stored_append}
use Rattle.row_texts.specs.Emitted.{Emitted, place_after}

-- ---- one text after another

-- in a buffer whose length is a number of 64 bits, as every buffer's is; the second text's buffer is as long, so that a row is one chain of this law
pub then : {out middle after : List ℕ} {at between next : ℕ} {first second : List ℕ}
    → Emitted out at first between middle → (length middle < 2 ^ 64 → Emitted middle between second next after) → length out < 2 ^ 64
    → Emitted out at (first ++ second) next after
then {out} {middle} {after} {at} {between} {next} {first} {second} p q short = record {
  place = λ h. place (rw length-append at h);
  same = rest.same ∙ p.same;
  bytes = λ h. bytes (rw length-append at h);
}
  where
    rest : Emitted middle between second next after
    rest = q (omega (arith, p.same))

    place : at + (length first + length second) < 2 ^ 64 → next ≡ at + length (first ++ second)
    place h =
        let come : between ≡ at + length first = p.place (omega arith) in
        let gone : next ≡ between + length second = rest.place (omega arith) in
        rw length-append (omega arith)

    bytes : at + (length first + length second) ≤ length out → after ≡ sets out at (first ++ second)
    bytes h =
        let come : between ≡ at + length first = p.place (omega arith) in
        let whole : Stored out at first middle between = record { bytes = p.bytes (omega arith); place = come } in
        let more : Stored middle between second after (between + length second) = record { bytes = rest.bytes (omega (arith, p.same)); place = refl } in
        (stored_append whole more).bytes

-- ---- what was stored, what was placed
pub stored_emits : {out after : List ℕ} {at next : ℕ} {text : List ℕ} → Stored out at text after next → Emitted out at text next after
stored_emits {out} {after} {at} {next} {text} s = record { place = λ h. s.place; same = ap length s.bytes ∙ length-sets out at text; bytes = λ h. s.bytes }

module _ (out : List ℕ) (at : ℕ) (text : List ℕ) where
  place_of : place_after at (placed_of out at text) ≡ at + length text
  unfolding place_after
  place_of = go (fits out at text) refl
    where
      go : (t : Bool) → fits out at text ≡ t → place_after at (placed_of out at text) ≡ at + length text
      go true e = ap (place_after at) (placed_fits out at text e)
      go false e = ap (place_after at) (placed_not out at text e)

  length_of : length (buffer_after out at text) ≡ length out
  length_of = go (fits out at text) refl
    where
      go : (t : Bool) → fits out at text ≡ t → length (buffer_after out at text) ≡ length out
      go true e = ap length (after_fits out at text e) ∙ length-sets out at text
      go false e = ap length (after_not out at text e)

  pub placed_emits : {placed : Result ℕ NoRoom} {next : ℕ} {after : List ℕ} → (placed ≡ placed_of out at text) × (after ≡ buffer_after out at text)
      → (place_after at placed < 2 ^ 64 → next ≡ place_after at placed) → Emitted out at text next after
  placed_emits {placed} {next} {after} p q =
      let place : place_after at placed ≡ at + length text = ap (place_after at) p.0 ∙ place_of in
      record {
        place = λ h. q (omega arith) ∙ place;
        same = ap length p.1 ∙ length_of;
        bytes = λ h. p.1 ∙ after_fits out at text (le-leb (at + length text) (length out) h);
      }

-- ---- where there is no room
pub no_room : (out : List ℕ) (at : ℕ) (text : List ℕ) {next : ℕ} → length out < at + length text → (at + length text < 2 ^ 64 → next ≡ at + length text) → Emitted out at text next out
no_room out at text h p = record { place = p; same = refl; bytes = λ k. absurd (omega arith) }

-- The acts of lines, part by part: those of the first lines, and then those of the others in the state that the first left; and the line of each act.
use mathlib.Core.Path.{◌≡◌, refl, sym, ap, ◌∙◌}
use mathlib.Core.List.{List, [], ◌∷◌, ◌++◌, nil≢cons}
use Prim.Native.Nat.{ℕ, suc, ◌+◌}
use native.Mathlib.Omega.{arith}
use lib.ListN.{length}
use Rattle.rows.specs.declared.settings.Settings.{Settings}
use Rattle.line_states.specs.States.{moved_by}
use Rattle.line_states.specs.declared.heads.Heads.{Heads}
use Rattle.acts.specs.Acts.{Asked}
use Rattle.mmcif.specs.Acts.{line_act, heads_after, acts_from}

pub heads_append : (heads : Heads) (a b : List (List ℕ)) → heads_after heads (a ++ b) ≡ heads_after (heads_after heads a) b
unfolding heads_after
heads_append heads [] b = refl
heads_append heads (line ∷ a) b = heads_append (moved_by heads line).heads a b

module _ (settings : Settings) where
  pub acts_append : (number : ℕ) (heads : Heads) (a b : List (List ℕ)) → acts_from settings number heads (a ++ b) ≡ acts_from settings number heads a ++ acts_from settings (number + length a) (heads_after heads a) b
  unfolding acts_from heads_after
  acts_append number heads [] b = let here : number ≡ number + 0 = omega arith in ap (λ (n : ℕ). acts_from settings n heads b) here
  acts_append number heads (line ∷ a) b =
      let further : suc number + length a ≡ number + suc (length a) = omega arith in
      let next = (moved_by heads line).heads in
      let first : Asked = record { line = number; act = line_act settings heads line } in
      ap (λ (l : List Asked). first ∷ l) (acts_append (suc number) next a b)
      ∙ ap (λ (n : ℕ). first ∷ (acts_from settings (suc number) next a ++ acts_from settings n (heads_after next a) b)) further

  -- the lines before an act, its line, and those after it
  pub record LineOf (number : ℕ) (heads : Heads) (lines : List (List ℕ)) (earlier : List Asked) (act : Asked) : Type 0 where
    pub before : List (List ℕ)
    pub line : List ℕ
    pub after : List (List ℕ)
    pub among : lines ≡ before ++ line ∷ after
    pub acts : earlier ≡ acts_from settings number heads before
    pub own : act ≡ record { line = number + length before; act = line_act settings (heads_after heads before) line }

  pub line_of : (number : ℕ) (heads : Heads) (lines : List (List ℕ)) (earlier : List Asked) (act : Asked) (later : List Asked)
      → acts_from settings number heads lines ≡ earlier ++ act ∷ later → LineOf number heads lines earlier act
  unfolding acts_from heads_after
  line_of number heads [] [] act later e = absurd (nil≢cons e)
  line_of number heads [] (a ∷ earlier) act later e = absurd (nil≢cons e)
  line_of number heads (line ∷ lines) [] act later e =
      let here : number ≡ number + 0 = omega arith in
      let q : record { line = number; act = line_act settings heads line } ≡ act = cc in
      record { before = []; line = line; after = lines; among = refl; acts = refl; own = sym q ∙ ap (λ (n : ℕ). record { line = n; act = line_act settings heads line }) here }
  line_of number heads (line ∷ lines) (a ∷ earlier) act later e =
      let first : record { line = number; act = line_act settings heads line } ≡ a = cc in
      let rest : acts_from settings (suc number) (moved_by heads line).heads lines ≡ earlier ++ act ∷ later = cc in
      let w = line_of (suc number) (moved_by heads line).heads lines earlier act later rest in
      let further : suc number + length w.before ≡ number + suc (length w.before) = omega arith in
      record {
        before = line ∷ w.before;
        line = w.line;
        after = w.after;
        among = ap (λ (l : List (List ℕ)). line ∷ l) w.among;
        acts = λ i. sym first i ∷ w.acts i;
        own = w.own ∙ ap (λ (n : ℕ). record { line = n; act = line_act settings (heads_after (moved_by heads line).heads w.before) w.line }) further;
      }

-- Demand 3 at work: document 01's whole case with its last row in front. That row is of another residue than the others and of the same chain, so that the
-- texts differ in order only.
use Prim.{tt}
use mathlib.Core.Path.{◌≡◌, refl, sym, ap, ◌∙◌}
use mathlib.Core.Bool.{Bool, true, false, ◌&&◌, ◌||◌, cond, false≢true}
use mathlib.Core.List.Permᴰ
use mathlib.Core.List.{List, [], ◌∷◌, ◌++◌, nil≢cons, append-nil}
use Prim.Native.Nat.{ℕ, ◌+◌, ◌^◌}
use native.Mathlib.Omega.{arith}
use lib.Dec.{eqb}
use borrow.Author.Tests.{eqb-true}
use Rattle.std.specs.Prelude.{Some, None, Ok, Err}
use Rattle.ascii.specs.Bytes.{bytes}
use Rattle.names.specs.Packing.{packed_in, packed}
use Rattle.rows.specs.Fields.{fields_of}
use Rattle.rows.specs.Rules.{Row, row_of}
use Rattle.rows.specs.Settings.{assuming}
use Rattle.rows.specs.declared.columns.Columns.{Columns}
use Rattle.rows.specs.declared.rules.Site.{Site}
use Rattle.model.specs.Alike.{is_of}
use Rattle.model.specs.Lists.{filter, any, All}
use Rattle.model.specs.Rules.{same_residue, same_atom, first_met, first_of}
use Rattle.model.specs.Taken.{site, sites}
use Rattle.model.proofs.ListLaws.{left_of, right_of, filter_append}
use Rattle.readings.specs.Order.{ChainsMetAlike, ResiduesBeginAlike}
use Rattle.mmcif.specs.Rows.{row_taken}
use Rattle.row_order.specs.Ends.{ReadAlike}
use Rattle.row_order.specs.Loops.{is_row, given_by, given_in}
use Rattle.row_order.specs.Order.{is_row_of, DifferInLoop}
use Rattle.row_order.proofs.OrderWithinLoop.{order_within_loop}
use Rattle.row_order.proofs.WorkedTexts.{headers, carbon, comment, again, cell, oxygen, others, one, other, sizes, lines_are, other_lines_are, are_rows, all_among, opened, columns, chain_and_sequence, found, columns_are, told, room, is_read}

-- ---- an entry can go in front of others where it passes no test that one of them passes
module _ {S : Type 0} (p : S → Bool) (x : S) where
  none_pass : (l : List S) → All (λ (y : S). p y ≡ true → p x ≡ false) l → p x ≡ true → filter p l ≡ []
  none_pass [] a e = refl
  none_pass (y ∷ l) a e = go (p y) refl (none_pass l a.1 e)
    where
      go : (b : Bool) → p y ≡ b → filter p l ≡ [] → cond b (y ∷ filter p l) (filter p l) ≡ []
      go true h r = absurd (false≢true (sym (a.0 h) ∙ e))
      go false h r = r

  to_the_front : (l : List S) → All (λ (y : S). p y ≡ true → p x ≡ false) l → filter p (l ++ (x ∷ [])) ≡ filter p (x ∷ l)
  to_the_front l a = filter_append p l (x ∷ []) ∙ go (p x) refl
    where
      go : (b : Bool) → p x ≡ b → filter p l ++ cond b (x ∷ []) [] ≡ cond b (x ∷ filter p l) (filter p l)
      go true e = ap (λ (m : List S). m ++ (x ∷ [])) (none_pass l a e) ∙ ap (λ (m : List S). x ∷ m) (sym (none_pass l a e))
      go false e = append-nil (filter p l)

-- ---- rows of different sequence numbers are of different residues
module _ (s : Site) where
  sequence_told : (t : Site) → same_residue s t ≡ true → t.sequence ≡ s.sequence
  sequence_told t e =
      let both = left_of (eqb t.chain s.chain && eqb t.sequence s.sequence) (eqb t.insertion_code s.insertion_code) e in
      eqb-true t.sequence s.sequence (right_of (eqb t.chain s.chain) (eqb t.sequence s.sequence) both)

  apart : (t x : Site) → (t.sequence ≡ x.sequence → ⊥) → same_residue s t ≡ true → same_residue s x ≡ false
  apart t x n e = go (same_residue s x) refl
    where
      go : (b : Bool) → same_residue s x ≡ b → b ≡ false
      go true h = absurd (n (sequence_told t e ∙ sym (sequence_told x h)))
      go false h = refl

-- ---- the rows
abbrev row : List ℕ → Row
row line = row_of assuming (fields_of columns line)

row_given : (line : List ℕ) (t : Site) → is_row line ≡ true → row line ≡ Ok (Some t) → given_by assuming columns line ≡ site t ∷ []
row_given line t r k = λ i. cond (r i) (row_taken (k i)) []

none_given : (line : List ℕ) → is_row line ≡ false → given_by assuming columns line ≡ []
none_given line r = λ i. cond (r i) (row_taken (row line)) []

record Gives (line : List ℕ) (sequence : ℕ) : Type 0 where
  taken : Site
  given : given_by assuming columns line ≡ site taken ∷ []
  chain : taken.chain ≡ packed (bytes "A")
  sequence_is : taken.sequence ≡ sequence

gives : (line : List ℕ) (sequence : ℕ) → is_row line ≡ true → chain_and_sequence (row_of assuming (fields_of found line)) ≡ packed (bytes "A") ∷ sequence ∷ [] → Gives line sequence
gives line sequence is_row e = go (row line) refl (ap (λ (x : Columns). chain_and_sequence (row_of assuming (fields_of x line))) columns_are ∙ e)
  where
    go : (r : Row) → row line ≡ r → chain_and_sequence r ≡ packed (bytes "A") ∷ sequence ∷ [] → Gives line sequence
    go (Err why) k e = absurd (nil≢cons e)
    go (Ok None) k e = absurd (nil≢cons e)
    go (Ok (Some t)) k e = record { taken = t; given = row_given line t is_row k; chain = cc; sequence_is = cc }

first : Gives carbon (2 ^ 31 + 7)
first = gives carbon (2 ^ 31 + 7) are_rows.0 told.0

second : Gives again (2 ^ 31 + 7)
second = gives again (2 ^ 31 + 7) are_rows.2 told.1

third : Gives oxygen (2 ^ 31 + 9)
third = gives oxygen (2 ^ 31 + 9) are_rows.4 told.2

first_differs : first.taken.sequence ≡ third.taken.sequence → ⊥
first_differs e = omega (arith, first.sequence_is, third.sequence_is)

second_differs : second.taken.sequence ≡ third.taken.sequence → ⊥
second_differs e = omega (arith, second.sequence_is, third.sequence_is)

abbrev before_it : List Site
before_it = first.taken ∷ second.taken ∷ []

rows_are : sites (given_in assuming columns (others ++ (oxygen ∷ []))) ≡ before_it ++ (third.taken ∷ [])
unfolding sites
rows_are = λ i.
    sites
    (first.given i ++ (none_given comment are_rows.1 i ++ (second.given i ++ (none_given cell are_rows.3 i ++ (third.given i ++ [])))))

other_rows_are : sites (given_in assuming columns (oxygen ∷ others)) ≡ third.taken ∷ before_it
unfolding sites
other_rows_are = λ i.
    sites
    (third.given i ++ (first.given i ++ (none_given comment are_rows.1 i ++ (second.given i ++ (none_given cell are_rows.3 i ++ [])))))

-- ---- chains
met_once : (x y z : Site) → x.chain ≡ packed (bytes "A") → y.chain ≡ packed (bytes "A") → z.chain ≡ packed (bytes "A") → first_met (x ∷ y ∷ z ∷ []) ≡ packed (bytes "A") ∷ []
unfolding first_met packed_in
met_once x y z p q r = rw (p, q, r)

same_chains : ChainsMetAlike (sites (given_in assuming columns (others ++ (oxygen ∷ [])))) (sites (given_in assuming columns (oxygen ∷ others)))
same_chains =
    ap first_met rows_are
    ∙ met_once first.taken second.taken third.taken first.chain second.chain third.chain
    ∙ sym (met_once third.taken first.taken second.taken third.chain first.chain second.chain)
    ∙ ap first_met (sym other_rows_are)

-- ---- residues
same_residues : ResiduesBeginAlike (sites (given_in assuming columns (others ++ (oxygen ∷ [])))) (sites (given_in assuming columns (oxygen ∷ others)))
same_residues s =
    ap (λ (l : List Site). first_of (filter (same_residue s) l)) rows_are
    ∙ ap first_of
    (to_the_front (same_residue s) third.taken before_it (apart s first.taken third.taken first_differs, (apart s second.taken third.taken second_differs, tt)))
    ∙ ap (λ (l : List Site). first_of (filter (same_residue s) l)) (sym other_rows_are)

-- ---- atoms
module _ (s : Site) where
  abbrev is_of_it : List ℕ → Bool
  is_of_it = is_row_of assuming columns s

  of_another : (line : List ℕ) (t : Site) → given_by assuming columns line ≡ site t ∷ [] → (t.sequence ≡ third.taken.sequence → ⊥) → is_of_it line ≡ true → is_of_it oxygen ≡ false
  of_another line t given differs e =
      let of-t = or_false (same_atom s t) (sym (ap (any (is_of s)) given) ∙ e) in
      let not_third = apart s t third.taken differs (left_of (same_residue s t) (eqb t.atom s.atom) of-t) in
      ap (any (is_of s)) third.given ∙ ap (λ (b : Bool). b && eqb third.taken.atom s.atom || false) not_third
    where
      or_false : (b : Bool) → (b || false) ≡ true → b ≡ true
      or_false true e = refl
      or_false false e = e

  of_none : (line : List ℕ) → given_by assuming columns line ≡ [] → is_of_it line ≡ true → is_of_it oxygen ≡ false
  of_none line given e = absurd (false≢true (sym (ap (any (is_of s)) given) ∙ e))

  same_atoms : filter is_of_it (others ++ (oxygen ∷ [])) ≡ filter is_of_it (oxygen ∷ others)
  same_atoms = to_the_front is_of_it oxygen others (
    of_another carbon first.taken first.given first_differs,
    (
      of_none comment (none_given comment are_rows.1),
      (
        of_another again second.taken second.given second_differs,
        (of_none cell (none_given cell are_rows.3), tt),
      ),
    ),
  )

-- ---- the texts differ in order only
differ_in_order : DifferInLoop assuming one other
unfolding columns
differ_in_order = record {
  texts = record {
    before = headers;
    loop = others ++ (oxygen ∷ []);
    reordered = oxygen ∷ others;
    after = [];
    one = lines_are;
    other = other_lines_are;
    opened = opened;
    among = all_among;
    order = Permᴰ.middle oxygen others [];
    size = sizes.0;
    other_size = sizes.1;
  };
  atoms = same_atoms;
  chains = same_chains;
  residues = same_residues;
}

-- ---- and so are read alike
pub whole_case_reordered : ReadAlike assuming room one other
whole_case_reordered = order_within_loop assuming one other differ_in_order room is_read

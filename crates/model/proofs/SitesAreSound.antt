-- What a kept row says is sound: its names are tokens, which are not empty and hold bytes of the line alone; its numbers are values within reach; and a
-- chain that is `.` is read as `?`.
use mathlib.Core.Path.{◌≡◌, refl, sym, ap, ◌∙◌, subst}
use mathlib.Core.Bool.{Bool, true, false, ◌&&◌, ◌||◌, cond, false≢true}
use mathlib.Core.List.Memᴰ
use mathlib.Core.List.{List, [], ◌∷◌}
use Prim.Native.Nat.{ℕ, zero, suc, ◌^◌, ◌≤◌, ◌<◌}
use native.Mathlib.Omega.{arith}
use lib.Dec.{eqb, leb, ltb}
use lib.Ieee.{Float}
use lib.ListN.{length}
use borrow.Author.Tests.{eqb-true, leb-true, lt-ltb, ne_eqb}
use Rattle.std.specs.Prelude.{Ok, Some}
use Rattle.ascii.specs.Bytes.{bytes, first, is_text_byte}
use Rattle.ascii.specs.Words.{same_bytes}
use Rattle.numbers.specs.Rounding.{printable}
use Rattle.numbers.proofs.ValueIsPrintable.{value_is_printable}
use Rattle.tokens.specs.Tokens.{token_at}
use Rattle.token_values.specs.Words.{is_missing}
use Rattle.token_values.proofs.SequenceLaws.{sequence_below}
use Rattle.tokens.proofs.TokensAreOfTheLine.{tokens_are_of_the_line}
use Rattle.names.specs.Elements.{element_of}
use Rattle.names.specs.Packing.{IsName, packed_in, packed, unpacked_in, unpacked}
use Rattle.names.proofs.ElementsAtMost118.{elements_at_most_118}
use Rattle.names.proofs.PackingIsOneToOne.{Letters, packed_fits, unpacked_packed, one_to_one}
use Rattle.rows.specs.declared.columns.Columns.{Columns}
use Rattle.rows.specs.declared.rules.Site.{Site}
use Rattle.rows.specs.Columns.{is_absent}
use Rattle.rows.specs.Columns as columns
use Rattle.rows.specs.Fields.{name_of, chain_of, insertion_code_of, measure_of, insertion_code_at, element_at, fields_of}
use Rattle.rows.specs.declared.settings.Settings.{Settings}
use Rattle.rows.specs.Rules.{row_of}
use Rattle.rows.proofs.RowsKept.{kept_only}
use Rattle.rows.proofs.WholeRowsReach.{whole_rows_reach}
use Rattle.model.specs.Sound.{Sound}
use Rattle.ascii.specs.Lists.{every}
use Rattle.model.specs.WellFormed.{is_name, is_code}
use Rattle.model.proofs.EveryLaws.{every_of, every_at}
use Rattle.model.proofs.ListLaws.{both, left_of, right_of}
use Rattle.model.proofs.OccupancyIsFinite.{given_number, occupancy_is_finite}

abbrev IsText : List ℕ → Type 0
IsText s = every is_text_byte s ≡ true

-- ---- bytes
text_bounds : (b : ℕ) → is_text_byte b ≡ true → (1 ≤ b) × (b ≤ 255)
text_bounds b e = go (eqb b 9) refl (leb 32 b) refl (leb b 126) refl e
  where
    go : (t : Bool) → eqb b 9 ≡ t → (u : Bool) → leb 32 b ≡ u → (v : Bool) → leb b 126 ≡ v → (t || (u && v)) ≡ true → (1 ≤ b) × (b ≤ 255)
    go true p u q v r e = let n = eqb-true b 9 p in (omega arith, omega arith)
    go false p true q true r e = let n = leb-true 32 b q in let m = leb-true b 126 r in (omega arith, omega arith)
    go false p true q false r e = absurd (false≢true e)
    go false p false q v r e = absurd (false≢true e)

code_bound : (b : ℕ) → is_code b ≡ true → b < 2 ^ 8
unfolding is_code
code_bound b e = go (eqb b 0) refl (is_text_byte b) refl e
  where
    go : (t : Bool) → eqb b 0 ≡ t → (u : Bool) → is_text_byte b ≡ u → (t || u) ≡ true → b < 2 ^ 8
    go true p u q e = let n = eqb-true b 0 p in omega arith
    go false p true q e = let n = (text_bounds b q).1 in omega arith
    go false p false q e = absurd (false≢true e)

text_letters : (s : List ℕ) → IsText s → Letters s
text_letters [] e i h = absurd (omega arith)
text_letters (b ∷ s) e zero h = text_bounds b (left_of (is_text_byte b) (every is_text_byte s) e)
text_letters (b ∷ s) e (suc i) h = text_letters s (right_of (is_text_byte b) (every is_text_byte s) e) i (omega arith)

-- ---- names
text_name : (s : List ℕ) → length s ≤ 8 → IsText s → IsName s
text_name s h e = record { short = h; bytes = text_letters s e }

packed_name : (s : List ℕ) → 0 < length s → length s ≤ 8 → IsText s → is_name (packed s) ≡ true
unfolding is_name unpacked_in
packed_name s some short e =
    let same : unpacked (packed s) ≡ s = unpacked_packed s (text_name s short e) in
    both _ _ (go (packed s) same) (ap (every is_text_byte) same ∙ e)
  where
    go : (n : ℕ) → unpacked n ≡ s → ltb 0 n ≡ true
    go zero q = absurd (omega (arith, some, ap length q))
    go (suc n) q = lt-ltb 0 (suc n) (omega arith)

-- what is written for a chain that is missing
a_question : (is_name (packed (bytes "?")) ≡ true) × (eqb (packed (bytes "?")) (packed (bytes ".")) ≡ false)
unfolding is_name packed_in unpacked_in
a_question = (refl, refl)

a_point : IsName (bytes ".")
a_point = text_name (bytes ".") (omega arith) refl

point_missing : (token : List ℕ) → token ≡ bytes "." → is_missing token ≡ true
unfolding same_bytes
point_missing token e = ap is_missing e

chain_name : (token : List ℕ) → 0 < length token → (chain_of token).length ≤ 8 → IsText token → (is_name (chain_of token).packed ≡ true) × (eqb (chain_of token).packed (packed (bytes ".")) ≡ false)
chain_name token some short e = go (is_missing token) refl short
  where
    go : (t : Bool) → is_missing token ≡ t → (cond t (name_of (bytes "?")) (name_of token)).length ≤ 8
        → (is_name (cond t (name_of (bytes "?")) (name_of token)).packed ≡ true) × (eqb (cond t (name_of (bytes "?")) (name_of token)).packed (packed (bytes ".")) ≡ false)
    go true m h = a_question
    go false m h = (
      packed_name token some h e,
      ne_eqb _ _ (λ q. false≢true (sym m ∙ point_missing token (one_to_one token (bytes ".") (text_name token h e) a_point q))),
    )

-- ---- insertion codes, elements, coordinates
code_of : (token : List ℕ) → IsText token → is_code (insertion_code_of token) ≡ true
unfolding is_code
code_of token e = go (is_missing token) token e
  where
    or_so : (b : ℕ) (t : Bool) → is_text_byte b ≡ true → (t || is_text_byte b) ≡ true
    or_so b true h = refl
    or_so b false h = h

    go : (t : Bool) (s : List ℕ) → IsText s → (eqb (cond t 0 (first s)) 0 || is_text_byte (cond t 0 (first s))) ≡ true
    go true s h = refl
    go false [] h = refl
    go false (b ∷ s) h = or_so b (eqb b 0) (left_of (is_text_byte b) (every is_text_byte s) h)

code_at : (line : List ℕ) (column : ℕ) → IsText (token_at line column) → is_code (insertion_code_at line column) ≡ true
unfolding is_code insertion_code_at
code_at line column e = go (is_absent column) (code_of (token_at line column) e)
  where
    go : (t : Bool) → is_code (insertion_code_of (token_at line column)) ≡ true → is_code (cond t 0 (insertion_code_of (token_at line column))) ≡ true
    go true h = refl
    go false h = h

element_at_lem : (line : List ℕ) (column : ℕ) → element_at line column ≤ 118
unfolding element_at
element_at_lem line column = go (is_absent column)
  where
    go : (t : Bool) → cond t 0 (element_of (token_at line column)) ≤ 118
    go true = omega arith
    go false = elements_at_most_118 (token_at line column)

near_of : (token : List ℕ) (v : Float) → measure_of token ≡ Some (Ok v) → printable v ≡ true
near_of token v e = value_is_printable token v (given_number token (Ok v) e)

-- ---- the theorem
pub sites_are_sound : (settings : Settings) (columns : Columns) (line : List ℕ) (s : Site) → every is_text_byte line ≡ true → row_of settings (fields_of columns line) ≡ Ok (Some s) → Sound s
unfolding fields_of
sites_are_sound settings c line s h e =
    let k = kept_only settings (fields_of c line) s e in
    let reached = whole_rows_reach c line k.read.reach in
    let name = chain_name (token_at line (columns.chain c)) (reached (columns.chain c) (Memᴰ.tail (Memᴰ.tail (Memᴰ.head refl)))) k.names.chain (text (columns.chain c)) in
    subst Sound (sym k.site) (record {
      proper = record {
        sequence = sequence_below (token_at line (columns.sequence c));
        code = code_bound _ (code_at line (columns.insertion_code c) (text (columns.insertion_code c)));
        atom = packed_fits (token_at line (columns.atom c)) (λ i l. (text_letters (token_at line (columns.atom c)) (text (columns.atom c)) i l).1);
        occupancy = occupancy_is_finite settings c line s e;
      };
      chain = name.0;
      no_point = name.1;
      residue = packed_name (token_at line (columns.residue c)) (reached (columns.residue c) (Memᴰ.tail (Memᴰ.head refl))) k.names.residue (text (columns.residue c));
      atom = packed_name (token_at line (columns.atom c)) (reached (columns.atom c) (Memᴰ.head refl)) k.names.atom (text (columns.atom c));
      code = code_at line (columns.insertion_code c) (text (columns.insertion_code c));
      element = element_at_lem line (columns.symbol c);
      near = both _ _ (both _ _ (near_of _ _ k.read.x) (near_of _ _ k.read.y)) (near_of _ _ k.read.z);
    })
  where
    text : (column : ℕ) → IsText (token_at line column)
    text column = every_of is_text_byte (token_at line column) (λ b m. every_at is_text_byte line h b (tokens_are_of_the_line line column b m))

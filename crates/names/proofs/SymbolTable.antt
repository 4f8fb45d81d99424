-- The table of symbols holds each element's symbol, packed; and a packed name is looked for among the symbols as its bytes are.
use mathlib.Core.Path.{◌≡◌, refl, sym, ap, ◌∙◌}
use mathlib.Core.List.{List, [], ◌∷◌, map}
use mathlib.Core.Bool.{Bool, true, false, cond, false≢true}
use Prim.Native.Nat.{ℕ, suc, ◌<◌, ◌^◌}
use Prim.Native.String.{String}
use lib.Dec.{eqb}
use lib.ListN.{get_or, get_or-map, drop}
use borrow.Author.Tests.{eq-eqb, ne_eqb, eqb-true}
use Rattle.ascii.specs.Bytes.{bytes}
use Rattle.ascii.specs.Words.{same_bytes}
use Rattle.ascii.proofs.WordLaws.{same_self, same_equal}
use Rattle.names.specs.Elements.{symbols, element_from, element_of, symbol_of}
use Rattle.names.specs.Packing.{packed_in, packed, unpacked_in, unpacked}
use Rattle.names.specs.declared.elements.TheConstants.{SYMBOLS}
use Rattle.names.proofs.MatchArms.{Missed, missed_first}
use Rattle.names.proofs.PackingIsOneToOne.{packed_unpacked}

abbrev packed_all : List String → List ℕ
packed_all l = map (λ (t : String). packed (bytes t)) l

table : packed_all symbols ≡ SYMBOLS
unfolding symbols packed_in
table = refl

-- `X` stands past the table, as for 0
pub symbol_at : (n : ℕ) → get_or SYMBOLS n (packed (bytes "X")) ≡ symbol_of n
unfolding symbol_of
symbol_at n = ap (λ (l : List ℕ). get_or l n (packed (bytes "X"))) (sym table) ∙ get_or-map (λ (t : String). packed (bytes t)) symbols n "X"

-- ---- looking for a name
abbrev pub look : ℕ → ℕ → List ℕ → ℕ
look n name [] = 0
look n name (k ∷ l) = cond (eqb name k) n (look (suc n) name l)

looked : (n name : ℕ) (l : List String) → packed (unpacked name) ≡ name → map (λ (t : String). unpacked (packed (bytes t))) l ≡ map bytes l → element_from n (unpacked name) l ≡ look n name (packed_all l)
unfolding element_from
looked n name [] e k = refl
looked n name (t ∷ l) e k =
    go (same_bytes (unpacked name) (bytes t)) (eqb name (packed (bytes t)))
    (λ s. eq-eqb name (packed (bytes t)) (sym e ∙ ap packed (same_equal (unpacked name) (bytes t) s)))
    (λ s. ap (λ (m : List ℕ). same_bytes m (bytes t)) (ap unpacked (eqb-true name (packed (bytes t)) s) ∙ ap (λ (m : List (List ℕ)). get_or m 0 []) k) ∙ same_self (bytes t))
    (looked (suc n) name l e (ap (drop 1) k))
  where
    go : (u v : Bool) → (u ≡ true → v ≡ true) → (v ≡ true → u ≡ true) → element_from (suc n) (unpacked name) l ≡ look (suc n) name (packed_all l)
        → cond u n (element_from (suc n) (unpacked name) l) ≡ cond v n (look (suc n) name (packed_all l))
    go true true f g h = refl
    go true false f g h = absurd (false≢true (f refl))
    go false true f g h = absurd (false≢true (g refl))
    go false false f g h = h

pub look_symbols : (name : ℕ) → name < 2 ^ 64 → element_of (unpacked name) ≡ look 0 name SYMBOLS
unfolding element_of symbols packed_in unpacked_in
look_symbols name h = looked 0 name symbols (packed_unpacked name h) refl ∙ ap (look 0 name) table

-- a name that is none of the symbols from 1 on is no element's
look_missed : (N : Type 0) (n name : ℕ) (l : List ℕ) → Missed N l name → look n name l ≡ 0
look_missed N n name [] h = refl
look_missed N n name (k ∷ l) h = rw (ne_eqb name k (missed_first N k l name h)) (look_missed (N × (name ≡ k → ⊥)) (suc n) name l h)

pub none_looked : (name : ℕ) → name < 2 ^ 64 → Missed (Unit {0}) (drop 1 SYMBOLS) name → 0 ≡ element_of (unpacked name)
none_looked name h m = sym (look_symbols name h ∙ go (eqb name (get_or SYMBOLS 0 0)))
  where
    go : (t : Bool) → cond t 0 (look 1 name (drop 1 SYMBOLS)) ≡ 0
    go true = refl
    go false = look_missed (Unit {0}) 1 name (drop 1 SYMBOLS) m

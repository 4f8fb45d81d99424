-- The first n entries are as many as are counted; the last of them decides, and else the search among all of them.
use Rattle.std.proofs.Common.{◌≡◌, ℕ, List, Result, length, take, min, sym, ap, ◌∙◌, subst, ltb, lt-ltb}
use Rattle.std.specs.Cmp.{nat_cmp_is}
use Rattle.std.specs.declared.cmp.Ordering.TheVariants.{Equal}
use Rattle.field_slices.specs.Places.{Found}
use Rattle.field_slices.proofs.PairLaws.{first_counted}
use Rattle.field_slices.proofs.RankLaws.{number_ranking, found_behind, found_last, found_search}
use Rattle.field_slices.proofs.places.place_of_key.Goals as goal

-- what is looked at is the first n entries
in_first : (n m key : ℕ) (keys : List ℕ) (r : Result ℕ ℕ) → m ≡ min n (length keys) → Found ltb (take m keys) key r → Found ltb (take n keys) key r
in_first n m key keys r e = subst (λ (l : List ℕ). Found ltb l key r) (ap (λ k. take k keys) e ∙ first_counted n keys)

pub returns-in-Some : goal.returns-in-Some
returns-in-Some c =
    let a = c.args in
    let m = c.min.result in
    let last = c.in-Some.last.now in
    in_first a.n m a.key a.keys.now _ c.min.ensures (found_behind number_ranking (take m a.keys.now) a.key last c.in-Some.ensures.value (lt-ltb last a.key c.if-last-key.true))

pub returns-in-Some-2 : goal.returns-in-Some-2
returns-in-Some-2 c =
    let a = c.args in
    let m = c.min.result in
    let last = c.in-Some.last.now in
    in_first a.n m a.key a.keys.now _ c.min.ensures (found_last number_ranking (take m a.keys.now) a.key last c.in-Some.ensures.value (sym (nat_cmp_is last a.key Equal c.if-last-key-2.true)))

pub returns-in_default : goal.returns-in_default
returns-in_default c =
    let a = c.args in
    let m = c.min.result in
    let found = c.binary_search in
    in_first a.n m a.key a.keys.now found.result c.min.ensures (found_search number_ranking (take m a.keys.now) a.key 0 found.result found.ensures.bound found.ensures.position)

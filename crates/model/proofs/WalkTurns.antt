-- One turn of a walk over the first n entries of a slice: what is seen from an index on, by the entry there.
use mathlib.Core.Path.{◌≡◌}
use mathlib.Core.Bool.{true, false, not}
use mathlib.Core.List.{List}
use Prim.Native.Nat.{ℕ, suc, ◌≤◌, ◌<◌, min}
use native.Mathlib.Decide.{dec_lt}
use native.Mathlib.Omega.{arith}
use lib.Dec.{eqb}
use lib.ListN.{length, take, drop, get_or}
use borrow.Author.Tests.{lt-ltb, le-ltb}
use Rattle.field_slices.specs.Places.{pairs}
use Rattle.model.specs.Keys.{chain_part}
use Rattle.model.specs.Termini.{is_polymer}
use Rattle.model.specs.Neighbours.{lessers, alone_in, ends_chain}
use Rattle.model.proofs.FirstEntries.{none_from, one_from, no_pair_from, pair_from}

module _ (key : ℕ) (keys : List ℕ) (n i : ℕ) where
  pub passed_all : min n (length keys) ≤ i → lessers key (drop i (take n keys)) ≡ 0
  unfolding lessers
  passed_all h = rw (none_from keys n i h)

  pub passed_none : i < min n (length keys) → key ≤ get_or keys i 0 → lessers key (drop i (take n keys)) ≡ 0
  unfolding lessers
  passed_none h k = rw (one_from keys n i 0 h, le-ltb (get_or keys i 0) key k)

  pub passed_one : i < min n (length keys) → get_or keys i 0 < key → lessers key (drop i (take n keys)) ≡ suc (lessers key (drop (suc i) (take n keys)))
  unfolding lessers
  passed_one h k = rw (one_from keys n i 0 h, lt-ltb (get_or keys i 0) key k)

  pub alone_at_end : min n (length keys) ≤ suc i → alone_in key (drop i (take n keys)) ≡ true
  unfolding alone_in
  alone_at_end h = go (dec_lt i (min n (length keys)))
    where
      go : Dec (i < min n (length keys)) → alone_in key (drop i (take n keys)) ≡ true
      go (yes l) = rw (one_from keys n i 0 l, none_from keys n (suc i) h)
      go (no l) = rw (none_from keys n i (omega arith))

  pub alone_before : suc i < min n (length keys) → alone_in key (drop i (take n keys)) ≡ not (eqb (get_or keys (suc i) 0) key)
  unfolding alone_in
  alone_before h = rw (one_from keys n i 0 (omega arith), one_from keys n (suc i) 0 h)

module _ (place : ℕ) (keys codes : List ℕ) (n i : ℕ) where
  pub ends_at_end : min n (min (length keys) (length codes)) ≤ i → ends_chain place (drop i (take n (pairs keys codes))) ≡ true
  unfolding ends_chain
  ends_at_end h = rw (no_pair_from keys codes n i h)

  pub ends_here : i < min n (min (length keys) (length codes)) → is_polymer (get_or codes i 0) ≡ true
      → ends_chain place (drop i (take n (pairs keys codes))) ≡ not (eqb (chain_part (get_or keys i 0)) place)
  unfolding ends_chain
  ends_here h p = rw (pair_from keys codes n i h, p)

  pub ends_behind : i < min n (min (length keys) (length codes)) → is_polymer (get_or codes i 0) ≡ false
      → ends_chain place (drop i (take n (pairs keys codes))) ≡ ends_chain place (drop (suc i) (take n (pairs keys codes)))
  unfolding ends_chain
  ends_behind h p = rw (pair_from keys codes n i h, p)

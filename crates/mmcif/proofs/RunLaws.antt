-- Row after row of one chain: its name stands at its place before the first, so that the chain list stays as it is, and it is found there for each.
use mathlib.Core.Path.{◌≡◌, refl, sym, ap, ◌∙◌, subst}
use mathlib.Core.Bool.{true, false, false≢true}
use mathlib.Core.List.{List}
use Prim.Native.Nat.{ℕ, suc, ◌^◌, ◌≤◌, ◌<◌}
use native.Mathlib.Omega.{arith}
use lib.ListN.{length, take, set}
use borrow.Author.Tests.{eqb-true}
use Rattle.std.specs.Prelude.{Option, Some, None}
use Rattle.rows.specs.declared.rules.Site.{Site}
use Rattle.rows.specs.declared.settings.Settings.{Settings}
use Rattle.model.specs.Lists.{count}
use Rattle.model.specs.declared.room.Room.{Room}
use Rattle.building.specs.Holds.{Records, records_of, SameLengths}
use Rattle.building.specs.Slices.{ChainFound}
use Rattle.building.proofs.ChainsStored.{found_again, stored_in}
use Rattle.acts.specs.Making.{Making}
use Rattle.acts.specs.Standing.{Keeps}
use Rattle.acts.specs.declared.doing.Standing.{Standing}
use Rattle.acts.proofs.LengthLaws.{lengths_same, lengths_then}
use Rattle.mmcif.specs.declared.stages.Stage.{Stage}
use Rattle.mmcif.specs.declared.stages.Waiting.{Waiting}
use Rattle.mmcif.specs.Stages.{chain_in, is_waiting, is_of, run_of, is_own, left, met, Inside, Between, Before, ReachedBy, Reached, GoesOnTo, PutBy, PutsWaiting, Walks}
use Rattle.mmcif.proofs.StageLaws.{between, at_between, inside_between, row_put}

-- the row that waits
record RowOf (w : Option Waiting) : Type 0 where
  row : Waiting
  this : w ≡ Some row

row_of_lem : (w : Option Waiting) → is_waiting w ≡ true → RowOf w
row_of_lem None e = absurd (false≢true e)
row_of_lem (Some row) e = record { row = row; this = refl }

-- a row of this chain waits, and so one does
waits_of : (w : Option Waiting) (name : ℕ) → is_of w name ≡ true → (is_waiting w ≡ true) × (chain_in w ≡ name)
waits_of None name e = absurd (false≢true e)
waits_of (Some row) name e = (refl, eqb-true row.site.chain name e)

-- a run goes on with a row of its chain
own_of : (first w : Option Waiting) → is_own (run_of first) w ≡ true → (is_waiting first ≡ true) × (is_of w (chain_in first) ≡ true)
own_of (Some row) w e = (refl, e)
own_of None w e = absurd (false≢true e)

-- a name that stands at a place stands there in the same list
still : (l m : List ℕ) (place name : ℕ) → m ≡ l → set l place name ≡ l → set m place name ≡ m
still l m place name e = subst (λ (x : List ℕ). set x place name ≡ x) (sym e)

module _ (text : List ℕ) (settings : Settings) (room : Room) (place name : ℕ) where
  abbrev Found : ℕ → List ℕ → Type 0
  Found n chains = ChainFound (take n chains) name place

  abbrev Stored : List ℕ → Type 0
  Stored chains = set chains place name ≡ chains

  -- ---- a row of the chain that waits is put in
  module _ (few : suc (length text) < 2 ^ 64) (s : Stage) (line : ℕ) (site : Site) (named : site.chain ≡ name) (kept : Standing) (r after : Records) (same : after.chains ≡ r.chains)
      (keeps : ChainFound (take (met s) r.chains) site.chain place → Keeps r room line s.standing.held site kept (stored_in after place name))
      (stored : Stored r.chains) (found : Found (met s) r.chains) where
    kept_here : Keeps r room line s.standing.held site kept (stored_in after place name)
    kept_here = keeps (subst (λ (n : ℕ). ChainFound (take (met s) r.chains) n place) (sym named) found)

    stays : Stored after.chains
    stays = still r.chains after.chains place name same stored

    unchanged : stored_in after place name ≡ after
    unchanged = λ i. records_of (stays i) after.residue_keys after.residue_names after.residue_marks after.atom_keys after.atom_names after.elements after.positions after.occupancies

    found_after : Found (met (between text settings s kept)) after.chains
    found_after =
        subst (Found (met (between text settings s kept))) (ap (λ (l : List ℕ). set l place name) (sym same) ∙ stays)
        (found_again r.chains (met s) name place found (met (between text settings s kept)) kept_here.chains)

    put_after : Inside text s → (target : Making) → Before text settings room target line site s r → Between text settings room target (between text settings s kept) after
    put_after i target b =
        subst (Between text settings room target (between text settings s kept)) unchanged
        (row_put text settings s kept room r (stored_in after place name) line site kept_here.acts i few target b)

module _ (text : List ℕ) (settings : Settings) (room : Room) (place : ℕ) (from : Stage) (r : Records) where
  abbrev name : ℕ
  name = chain_in from.waiting

  -- ---- before a turn: at first, or with one more row of the chain that waits
  pub record OnTheRun (s : Stage) (after : Records) : Type 0 where
    pub lengths : SameLengths r after
    pub chains : after.chains ≡ r.chains
    pub same : is_waiting from.waiting ≡ false → s ≡ from
    pub own : is_waiting from.waiting ≡ true → (is_waiting s.waiting ≡ true) × (chain_in s.waiting ≡ name)
    pub fewer : left text s ≤ left text from
    pub inside : Inside text from → Inside text s
    pub found : is_waiting from.waiting ≡ true → Stored text settings room place name r.chains → Found text settings room place name (met from) r.chains
        → Found text settings room place name (met s) after.chains
    pub reached : Inside text from → is_waiting from.waiting ≡ true → Found text settings room place name (met from) r.chains → Stored text settings room place name r.chains
        → (target : Making) → Reached text settings room target from r → Reached text settings room target s after

  pub none_yet : OnTheRun from r
  none_yet = record {
    lengths = lengths_same r;
    chains = refl;
    same = λ none. refl;
    own = λ waits. (waits, refl);
    fewer = omega arith;
    inside = λ i. i;
    found = λ waits e f. f;
    reached = λ i waits f e target q. q;
  }

  -- ---- a turn: the row that waits put in, and on to the next
  module _ (few : suc (length text) < 2 ^ 64) (s : Stage) (mid : Records) (o : OnTheRun s mid) (kept : Standing) (after : Records) (same : after.chains ≡ mid.chains)
      (p : PutsWaiting room place s kept mid (stored_in after place (chain_in s.waiting))) (to : Stage) (g : GoesOnTo text settings (between text settings s kept) to) where
    put_lengths : SameLengths mid after
    put_lengths = record {
      chains = ap length same;
      residue_keys = p.lengths.residue_keys;
      residue_names = p.lengths.residue_names;
      residue_marks = p.lengths.residue_marks;
      atom_keys = p.lengths.atom_keys;
      atom_names = p.lengths.atom_names;
      elements = p.lengths.elements;
      positions = p.lengths.positions;
      occupancies = p.lengths.occupancies;
    }

    pub lengths_so_far : SameLengths r after
    lengths_so_far = lengths_then o.lengths put_lengths

    inside_next : Inside text from → Inside text to
    inside_next i = g.inside (inside_between text settings s kept (o.inside i))

    module _ (waits : is_waiting from.waiting ≡ true) where
      found_row : RowOf s.waiting
      found_row = row_of_lem s.waiting (o.own waits).0

      abbrev row : Waiting
      row = found_row.row

      named : row.site.chain ≡ name
      named = sym (ap chain_in found_row.this) ∙ (o.own waits).1

      pub nearer : left text to < left text s
      nearer = omega (arith, g.fewer, at_between text settings s kept kept.halt, ap count (o.own waits).0)

      keeps : ChainFound (take (met s) mid.chains) row.site.chain place → Keeps mid room row.line s.standing.held row.site kept (stored_in after place name)
      keeps = subst (λ (w : Option Waiting). PutBy w room place s kept mid (stored_in after place name)) found_row.this
          (subst (λ (n : ℕ). PutBy s.waiting room place s kept mid (stored_in after place n)) (o.own waits).1 p.puts)

      module _ (stored : Stored text settings room place name r.chains) (f : Found text settings room place name (met from) r.chains) where
        stored_here : Stored text settings room place name mid.chains
        stored_here = still r.chains mid.chains place name o.chains stored

        found_next : Found text settings room place name (met to) after.chains
        found_next =
            subst (λ (n : ℕ). Found text settings room place name n after.chains) (sym g.chains)
            (found_after text settings room place name few s row.line row.site named kept mid after same keeps stored_here (o.found waits stored f))

        reached_next : Inside text from → (target : Making) → Reached text settings room target from r → Reached text settings room target to after
        reached_next i target q =
            let b : Before text settings room target row.line row.site s mid
            = subst (λ (w : Option Waiting). ReachedBy w text settings room target s mid) found_row.this (o.reached i waits f stored target q) in
            g.reached (inside_between text settings s kept (o.inside i)) room target after
            (put_after text settings room place name few s row.line row.site named kept mid after same keeps stored_here (o.found waits stored f) (o.inside i) target b)

    -- with a row of the chain
    pub one_row : is_own (run_of from.waiting) to.waiting ≡ true → OnTheRun to after
    one_row e =
        let waits = (own_of from.waiting to.waiting e).0 in
        let mine = waits_of to.waiting name (own_of from.waiting to.waiting e).1 in
        record {
          lengths = lengths_so_far;
          chains = same ∙ o.chains;
          same = λ none. absurd (false≢true (sym none ∙ waits));
          own = λ first. mine;
          fewer = omega (arith, nearer waits, o.fewer);
          inside = inside_next;
          found = λ first. found_next first;
          reached = λ i first f stored. reached_next first stored f i;
        }

    pub less : is_own (run_of from.waiting) to.waiting ≡ true → left text to < left text s
    less e = nearer (own_of from.waiting to.waiting e).0

    -- or with none
    pub run_taken : Walks text settings room place from to r after
    run_taken = record {
      run = record {
        lengths = lengths_so_far;
        stops = λ waits. g.stops;
        fewer = λ waits. omega (arith, nearer waits, o.fewer);
        inside = inside_next;
        reached = λ i waits f stored. reached_next waits stored f i;
      };
      first = λ none.
          let e = o.same none in
          let stood : kept ≡ s.standing = stood_by s.waiting (ap (λ (x : Stage). is_waiting x.waiting) e ∙ none) p.puts in
          subst (λ (x : Stage). GoesOnTo text settings (between text settings x x.standing) to) e
          (subst (λ (x : Standing). GoesOnTo text settings (between text settings s x) to) stood g);
    }
      where
        stood_by : (w : Option Waiting) → is_waiting w ≡ false → PutBy w room place s kept mid (stored_in after place (chain_in s.waiting)) → kept ≡ s.standing
        stood_by None e q = q
        stood_by (Some row) e q = absurd (false≢true (sym e))

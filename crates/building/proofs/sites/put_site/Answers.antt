-- What lacks the room is what the model lacks, and else what is stored is the model's next step: whatever the chain list, in which the site's chain was found.
use mathlib.Core.Path.{◌≡◌, refl, sym, ◌∙◌, subst}
use Prim.Native.Nat.{◌≤◌}
use lib.ListN.{set, length-set}
use Rattle.std.specs.Prelude.{None}
use Rattle.model.specs.Fold.{step}
use Rattle.model.specs.Taken.{site}
use Rattle.building.specs.declared.sites.Counts.{Counts}
use Rattle.building.specs.Gaps.{HoldsApart}
use Rattle.building.specs.Holds.{Records, records_now}
use Rattle.building.specs.Sites.{is_new_chain, lack_of}
use Rattle.building.proofs.CountLaws.{no_fewer}
use Rattle.building.proofs.SiteLaws.{lack_is, lengths_after, site_held}
use Rattle.building.proofs.sites.put_site.Goals as goal

pub returns-in-Some : goal.returns-in-Some
returns-in-Some c =
    let a = c.args in
    let q = c.places_of-places in
    record {
      same = ((refl, refl, refl, refl, refl), refl, refl);
      same_atoms = (refl, refl, refl, refl, refl);
      lengths = λ chains. record {
        chains = refl;
        residue_keys = refl;
        residue_names = refl;
        residue_marks = refl;
        atom_keys = refl;
        atom_names = refl;
        elements = refl;
        positions = refl;
        occupancies = refl;
      };
      did = λ chains found. (
        record {
          chains = length-set chains a.place a.site.chain;
          residue_keys = refl;
          residue_names = refl;
          residue_marks = refl;
          atom_keys = refl;
          atom_names = refl;
          elements = refl;
          positions = refl;
          occupancies = refl;
        },
        refl,
        λ st h w. sym (lack_is (records_now chains a.residues.now a.atoms.now) a.room a.held a.site q.result a.place found q.ensures st h w) ∙ sym c.lack_of.ensures ∙ c.in-Some.is,
      );
    }

pub returns : goal.returns
returns c =
    let a = c.args in
    let q = c.places_of-places in
    let counts = c.counts_with in
    let residues = c.store_residue in
    let atoms = c.store_atom in
    let roomy : lack_of a.room a.held.counts q.result ≡ None = sym c.lack_of.ensures ∙ c.in_default.is in
    record {
      same = residues.ensures.same;
      same_atoms = atoms.ensures.same;
      lengths = λ chains. record {
        chains = refl;
        residue_keys = residues.ensures.puts.same.keys;
        residue_names = residues.ensures.puts.same.names;
        residue_marks = residues.ensures.puts.same.marks;
        atom_keys = atoms.ensures.puts.same.keys;
        atom_names = atoms.ensures.puts.same.names;
        elements = atoms.ensures.puts.same.elements;
        positions = atoms.ensures.puts.same.positions;
        occupancies = atoms.ensures.puts.same.occupancies;
      };
      did = λ chains found.
          let r : Records = records_now chains a.residues.now a.atoms.now in
          let left : Records = records_now (set chains a.place a.site.chain) residues.new.residues atoms.new.atoms in (
            lengths_after r left a.place a.site.chain refl residues.ensures.puts.same atoms.ensures.puts.same,
            subst (λ (n : Counts). a.held.counts.chains ≤ n.chains) (sym counts.ensures) (no_fewer a.held.counts.chains (is_new_chain a.held.counts q.result)),
            λ st h w. (
              sym (lack_is r a.room a.held a.site q.result a.place found q.ensures st h w) ∙ roomy,
              λ few.
                  subst (λ (n : Counts). HoldsApart left a.room (record { counts = n; residues = residues.result; atoms = atoms.result }) (step st (site a.site))) (sym counts.ensures)
                  (site_held r a.room a.held a.site q.result a.place found q.ensures st h w roomy left refl residues.result atoms.result residues.ensures.puts atoms.ensures.puts few),
            ),
          );
    }

-- Acts that differ only in the order of one part, where no act of the one refuses: neither does one of the other, and their rows are alike. The acts before and after
-- give the same rows, and those of the part are the same in another order.
use mathlib.Core.Path.{◌≡◌, refl, sym, ap, ◌∙◌, subst}
use mathlib.Core.Bool.{Bool, true, false, cond, ◌||◌}
use mathlib.Core.List.Permᴰ
use mathlib.Core.List.{List, [], ◌∷◌, ◌++◌, append_assoc}
use Prim.Native.Nat.{ℕ, ◌+◌}
use native.Mathlib.Omega.{arith}
use Rattle.rows.specs.declared.rules.Site.{Site}
use Rattle.model.specs.Alike.{Alike}
use Rattle.model.specs.Lists.{All, filter}
use Rattle.model.proofs.ClassLaws.{total}
use Rattle.model.specs.Rules.{same_atom}
use Rattle.model.specs.Taken.{Taken, skipped, site, sites, skipped_in}
use Rattle.model.proofs.ListLaws.{filter_append}
use Rattle.acts.specs.Acts.{Asked, row_in, rows_in, GoesOn, AllGoOn}
use Rattle.acts.specs.declared.act.Act.{Act}
use Rattle.acts.specs.declared.act.Act.TheVariants.{Pass, Skip, Keep, Refuse}
use Rattle.readings.specs.Order.{acts_in, ActsReordered, keeps_of, ActsDiffer}
use Rattle.readings.proofs.ReorderedLaws.{all_reordered, total_reordered}

-- ---- rows in parts
pub sites_append : (l m : List Taken) → sites (l ++ m) ≡ sites l ++ sites m
unfolding sites
sites_append [] m = refl
sites_append (skipped ∷ l) m = sites_append l m
sites_append (site s ∷ l) m = ap (λ (n : List Site). s ∷ n) (sites_append l m)

skipped_append : (l m : List Taken) → skipped_in (l ++ m) ≡ skipped_in l + skipped_in m
unfolding skipped_in
skipped_append [] m = omega arith
skipped_append (skipped ∷ l) m = omega (arith, skipped_append l m)
skipped_append (site s ∷ l) m = skipped_append l m

abbrev of_atom : Site → List Taken → List Site
of_atom s l = filter (same_atom s) (sites l)

of_append : (s : Site) (l m : List Taken) → of_atom s (l ++ m) ≡ of_atom s l ++ of_atom s m
of_append s l m = ap (filter (same_atom s)) (sites_append l m) ∙ filter_append (same_atom s) (sites l) (sites m)

-- ---- the rows of acts, whatever their lines
rows_among : List Act → List Taken
rows_among [] = []
rows_among (act ∷ acts) = row_in act ++ rows_among acts

rows_among_lem : (acts : List Asked) → rows_in acts ≡ rows_among (acts_in acts)
unfolding rows_in rows_among
rows_among_lem [] = refl
rows_among_lem (a ∷ acts) = ap (λ (l : List Taken). row_in a.act ++ l) (rows_among_lem acts)

among_append : (a b : List Act) → rows_among (a ++ b) ≡ rows_among a ++ rows_among b
unfolding rows_among
among_append [] b = refl
among_append (act ∷ a) b = ap (λ (l : List Taken). row_in act ++ l) (among_append a b) ∙ sym (append_assoc (row_in act) (rows_among a) (rows_among b))

pub goes_among : (acts : List Asked) → AllGoOn acts → All GoesOn (acts_in acts)
goes_among [] g = g
goes_among (a ∷ acts) g = (g.0, goes_among acts g.1)

among_goes : (acts : List Asked) → All GoesOn (acts_in acts) → AllGoOn acts
among_goes [] g = g
among_goes (a ∷ acts) g = (g.0, among_goes acts g.1)

skipped_total : (acts : List Act) → skipped_in (rows_among acts) ≡ total (λ act. skipped_in (row_in act)) acts
unfolding rows_among skipped_in total
skipped_total [] = refl
skipped_total (act ∷ acts) = skipped_append (row_in act) (rows_among acts) ∙ ap (λ (n : ℕ). skipped_in (row_in act) + n) (skipped_total acts)

-- an atom's rows are those of its acts
module _ (s : Site) where
  of_act : (act : Act) → of_atom s (row_in act) ≡ sites (cond (keeps_of s act) (row_in act) [])
  unfolding sites
  of_act Pass = refl
  of_act Skip = refl
  of_act (Keep t) = go (same_atom s t)
    where
      go : (b : Bool) → cond b (t ∷ []) [] ≡ sites (cond (b || false) (site t ∷ []) [])
      go true = refl
      go false = refl
  of_act (Refuse why) = refl

  among_if : (b : Bool) (act : Act) (acts : List Act) → cond b (row_in act) [] ++ rows_among acts ≡ rows_among (cond b (act ∷ acts) acts)
  unfolding rows_among
  among_if true act acts = refl
  among_if false act acts = refl

  of_acts : (acts : List Act) → of_atom s (rows_among acts) ≡ sites (rows_among (filter (keeps_of s) acts))
  unfolding rows_among sites
  of_acts [] = refl
  of_acts (act ∷ acts) =
      of_append s (row_in act) (rows_among acts)
      ∙ (λ i. of_act act i ++ of_acts acts i)
      ∙ sym (sites_append (cond (keeps_of s act) (row_in act) []) (rows_among (filter (keeps_of s) acts)))
      ∙ ap sites (among_if (keeps_of s act) act (filter (keeps_of s) acts))

-- ---- the acts
module _ (a b : List Asked) (d : ActsReordered a b) where
  parts : (acts : List Act) → rows_among (d.before ++ (acts ++ d.after)) ≡ rows_among d.before ++ (rows_among acts ++ rows_among d.after)
  parts acts = among_append d.before (acts ++ d.after) ∙ ap (λ (l : List Taken). rows_among d.before ++ l) (among_append acts d.after)

  rows_are : rows_in a ≡ rows_among d.before ++ (rows_among d.part ++ rows_among d.after)
  rows_are = rows_among_lem a ∙ ap rows_among d.one ∙ parts d.part

  other_rows_are : rows_in b ≡ rows_among d.before ++ (rows_among d.reordered ++ rows_among d.after)
  other_rows_are = rows_among_lem b ∙ ap rows_among d.other ∙ parts d.reordered

  -- no act of the other refuses
  pub other_goes_on : AllGoOn a → AllGoOn b
  other_goes_on g =
      among_goes b (subst (All GoesOn) (sym d.other)
      (all_reordered GoesOn (Permᴰ.append_left d.before (Permᴰ.append_right d.after d.order)) (subst (All GoesOn) d.one (goes_among a g))))

  -- each atom has the same rows in the same order, and as many are skipped
  of_parts : (s : Site) (acts : List Act) → of_atom s (rows_among d.before ++ (rows_among acts ++ rows_among d.after))
      ≡ of_atom s (rows_among d.before) ++ (sites (rows_among (filter (keeps_of s) acts)) ++ of_atom s (rows_among d.after))
  of_parts s acts =
      of_append s (rows_among d.before) (rows_among acts ++ rows_among d.after)
      ∙ ap (λ (l : List Site). of_atom s (rows_among d.before) ++ l) (of_append s (rows_among acts) (rows_among d.after))
      ∙ ap (λ (l : List Site). of_atom s (rows_among d.before) ++ (l ++ of_atom s (rows_among d.after))) (of_acts s acts)

  same_atoms : ((s : Site) → filter (keeps_of s) d.part ≡ filter (keeps_of s) d.reordered) → (s : Site) → filter (same_atom s) (sites (rows_in a)) ≡ filter (same_atom s) (sites (rows_in b))
  same_atoms atoms s =
      ap (of_atom s) rows_are
      ∙ of_parts s d.part
      ∙ ap (λ (l : List Act). of_atom s (rows_among d.before) ++ (sites (rows_among l) ++ of_atom s (rows_among d.after))) (atoms s)
      ∙ sym (of_parts s d.reordered)
      ∙ ap (of_atom s) (sym other_rows_are)

  abbrev skipped_of : Act → ℕ
  skipped_of act = skipped_in (row_in act)

  skipped_parts : (acts : List Act) → skipped_in (rows_among d.before ++ (rows_among acts ++ rows_among d.after)) ≡ skipped_in (rows_among d.before) + (total skipped_of acts + skipped_in (rows_among d.after))
  skipped_parts acts =
      skipped_append (rows_among d.before) (rows_among acts ++ rows_among d.after)
      ∙ ap (λ (n : ℕ). skipped_in (rows_among d.before) + n) (skipped_append (rows_among acts) (rows_among d.after))
      ∙ ap (λ (n : ℕ). skipped_in (rows_among d.before) + (n + skipped_in (rows_among d.after))) (skipped_total acts)

  same_skipped : skipped_in (rows_in a) ≡ skipped_in (rows_in b)
  same_skipped =
      ap skipped_in rows_are
      ∙ skipped_parts d.part
      ∙ ap (λ (n : ℕ). skipped_in (rows_among d.before) + (n + skipped_in (rows_among d.after))) (total_reordered skipped_of d.order)
      ∙ sym (skipped_parts d.reordered)
      ∙ ap skipped_in (sym other_rows_are)

-- ---- the rows are alike
pub rows_alike : (a b : List Asked) → ActsDiffer a b → Alike (rows_in a) (rows_in b)
rows_alike a b d = record {
  atoms = same_atoms a b d.acts d.atoms;
  chains = d.chains;
  residues = d.residues;
  skipped = same_skipped a b d.acts;
}

-- Demand 3 with chains and residues as they are met in the loop: then they are met alike in the whole texts too, since what stands before and after the loop is the
-- same. A chain is first met before the loop, in it, or after it, and so is a residue.
use mathlib.Core.Path.{◌≡◌, refl, sym, ap, ◌∙◌}
use mathlib.Core.Bool.{Bool, true, not}
use mathlib.Core.List.{List, [], ◌∷◌, ◌++◌}
use mathlib.Core.Option.{Option, none, some}
use Prim.Native.Nat.{ℕ}
use lib.Dec.{eqb}
use Rattle.ascii.specs.Lists.{every}
use Rattle.rows.specs.declared.rules.Site.{Site}
use Rattle.rows.specs.declared.settings.Settings.{Settings}
use Rattle.line_states.specs.Heads.{start_heads}
use Rattle.line_states.specs.declared.heads.Heads.{Heads}
use Rattle.model.specs.Chains.{with_chain}
use Rattle.model.specs.Fold.{Residue}
use Rattle.model.specs.Lists.{filter}
use Rattle.model.specs.Rules.{same_residue, first_met, first_of}
use Rattle.model.specs.Taken.{Taken, sites}
use Rattle.model.specs.declared.room.Room.{Room}
use Rattle.model.proofs.ChainsFirstMet.{met_after, chains_first_met}
use Rattle.model.proofs.ListLaws.{filter_append}
use Rattle.readings.specs.Ends.{ToTheEnd}
use Rattle.readings.specs.Order.{ChainsMetAlike, ResiduesBeginAlike}
use Rattle.readings.proofs.ReorderedLaws.{every_reordered}
use Rattle.readings.proofs.RowsReordered.{sites_append}
use Rattle.mmcif.specs.Acts.{heads_after}
use Rattle.mmcif.specs.Rows.{rows_from, rows_of}
use Rattle.mmcif.proofs.RowsOfActs.{rows_append}
use Rattle.reader.specs.Reading.{read_of}
use Rattle.row_order.specs.Ends.{ReadAlike}
use Rattle.row_order.specs.Loops.{stands_among_rows, given_in}
use Rattle.row_order.specs.Order.{Reordered, columns_in, DifferInOrder, DifferInLoop}
use Rattle.row_order.proofs.ActsOfLoop.{same_heads}
use Rattle.row_order.proofs.LoopRows.{loop_rows_lem}
use Rattle.row_order.proofs.OrderOfTexts.{order_of_texts}

-- ---- chains
met_append : (chains : List ℕ) (l m : List Site) → met_after chains (l ++ m) ≡ met_after (met_after chains l) m
unfolding met_after
met_append chains [] m = refl
met_append chains (s ∷ l) m = met_append (with_chain s.chain chains) l m

met_then : (l m : List Site) → first_met (l ++ m) ≡ met_after (first_met l) m
met_then l m = sym (chains_first_met (l ++ m)) ∙ met_append [] l m ∙ ap (λ (chains : List ℕ). met_after chains m) (chains_first_met l)

chains_between : (first l m last : List Site) → ChainsMetAlike l m → ChainsMetAlike (first ++ (l ++ last)) (first ++ (m ++ last))
unfolding first_met
chains_between [] l m last e = met_then l last ∙ ap (λ (chains : List ℕ). met_after chains last) e ∙ sym (met_then m last)
chains_between (s ∷ first) l m last e = ap (λ (chains : List ℕ). s.chain ∷ filter (λ c. not (eqb c s.chain)) chains) (chains_between first l m last e)

-- ---- residues
abbrev else : Option Residue → Option Residue → Option Residue
else none other = other
else (some r) other = some r

first_append : (l m : List Site) → first_of (l ++ m) ≡ else (first_of l) (first_of m)
first_append [] m = refl
first_append (s ∷ l) m = refl

first_there : (p : Site → Bool) (l m : List Site) → first_of (filter p (l ++ m)) ≡ else (first_of (filter p l)) (first_of (filter p m))
first_there p l m = ap first_of (filter_append p l m) ∙ first_append (filter p l) (filter p m)

residues_between : (first l m last : List Site) → ResiduesBeginAlike l m → ResiduesBeginAlike (first ++ (l ++ last)) (first ++ (m ++ last))
residues_between first l m last e s = parts l ∙ ap (λ (o : Option Residue). else (at first) (else o (at last))) (e s) ∙ sym (parts m)
  where
    at : List Site → Option Residue
    at l = first_of (filter (same_residue s) l)

    parts : (l : List Site) → first_of (filter (same_residue s) (first ++ (l ++ last))) ≡ else (at first) (else (at l) (at last))
    parts l = first_there (same_residue s) first (l ++ last) ∙ ap (else (at first)) (first_there (same_residue s) l last)

-- ---- the texts
module _ (settings : Settings) (t u : List ℕ) (d : DifferInLoop settings t u) where
  abbrev texts : Reordered t u
  texts = d.texts

  abbrev heads : Heads
  heads = heads_after start_heads texts.before

  abbrev before : List Taken
  before = rows_from settings start_heads texts.before

  abbrev between : List (List ℕ) → List Taken
  between lines = given_in settings (columns_in texts) lines

  abbrev after : List (List ℕ) → List Taken
  after lines = rows_from settings (heads_after heads lines) texts.after

  in_parts : (lines : List (List ℕ)) → every stands_among_rows lines ≡ true → sites (rows_from settings start_heads (texts.before ++ (lines ++ texts.after))) ≡ sites before ++ (sites (between lines) ++ sites (after lines))
  in_parts lines among =
      ap sites
      (rows_append settings start_heads texts.before (lines ++ texts.after)
      ∙ ap (λ (l : List Taken). before ++ l) (rows_append settings heads lines texts.after)
      ∙ ap (λ (l : List Taken). before ++ (l ++ after lines)) (loop_rows_lem settings (columns_in texts) heads refl texts.opened lines among))
      ∙ sites_append before (between lines ++ after lines)
      ∙ ap (λ (l : List Site). sites before ++ l) (sites_append (between lines) (after lines))

  sites_are : sites (rows_of settings t) ≡ sites before ++ (sites (between texts.loop) ++ sites (after texts.loop))
  sites_are = ap (λ (lines : List (List ℕ)). sites (rows_from settings start_heads lines)) texts.one ∙ in_parts texts.loop texts.among

  other_sites_are : sites (rows_of settings u) ≡ sites before ++ (sites (between texts.reordered) ++ sites (after texts.loop))
  other_sites_are =
      ap (λ (lines : List (List ℕ)). sites (rows_from settings start_heads lines)) texts.other
      ∙ in_parts texts.reordered (sym (every_reordered stands_among_rows texts.order) ∙ texts.among)
      ∙ ap (λ (h : Heads). sites before ++ (sites (between texts.reordered) ++ sites (rows_from settings h texts.after))) (sym (same_heads settings t u texts))

  loop_is_enough : DifferInOrder settings t u
  loop_is_enough = record {
    texts = texts;
    atoms = d.atoms;
    chains =
        ap first_met sites_are
        ∙ chains_between (sites before) (sites (between texts.loop)) (sites (between texts.reordered)) (sites (after texts.loop)) d.chains
        ∙ ap first_met (sym other_sites_are);
    residues = λ s.
        ap (λ (l : List Site). first_of (filter (same_residue s) l)) sites_are
        ∙ residues_between (sites before) (sites (between texts.loop)) (sites (between texts.reordered)) (sites (after texts.loop)) d.residues s
        ∙ ap (λ (l : List Site). first_of (filter (same_residue s) l)) (sym other_sites_are);
  }

-- ---- the theorem
pub order_within_loop : (settings : Settings) (t u : List ℕ) → DifferInLoop settings t u → (room : Room) → ToTheEnd (read_of settings room t) → ReadAlike settings room t u
order_within_loop settings t u d room end = order_of_texts settings t u (loop_is_enough settings t u d) room end

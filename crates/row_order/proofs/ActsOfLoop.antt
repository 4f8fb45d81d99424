-- Two texts that differ only in the order of one loop's rows ask for acts that differ only in that order, where no line of the one is refused for itself.
use mathlib.Core.Path.{◌≡◌, refl, sym, ap, ◌∙◌, subst}
use mathlib.Core.Bool.{Bool, true}
use mathlib.Core.List.Permᴰ
use mathlib.Core.List.{List, [], ◌∷◌, ◌++◌, map}
use Prim.Native.Nat.{ℕ, suc, ◌+◌, ◌≤◌}
use lib.ListN.{length}
use Rattle.lines.specs.Lines.{lines_of}
use Rattle.tokens.specs.Longest.{longest}
use Rattle.rows.specs.declared.columns.Columns.{Columns}
use Rattle.rows.specs.declared.rules.Site.{Site}
use Rattle.rows.specs.declared.settings.Settings.{Settings}
use Rattle.line_states.specs.Heads.{start_heads}
use Rattle.line_states.specs.States.{moved_by}
use Rattle.line_states.specs.declared.heads.Heads.{Heads}
use Rattle.model.specs.Alike.{is_of}
use Rattle.model.specs.Lists.{All, filter, any}
use Rattle.model.specs.Taken.{Taken, sites}
use Rattle.model.proofs.ListLaws.{all_before, all_after, filter_same, filter_map}
use Rattle.ascii.specs.Lists.{every}
use Rattle.acts.specs.Acts.{Asked, rows_in, GoesOn, AllGoOn}
use Rattle.acts.specs.declared.act.Act.{Act}
use Rattle.readings.specs.Order.{acts_in, ActsReordered, keeps_of, ChainsMetAlike, ResiduesBeginAlike, ActsDiffer}
use Rattle.readings.proofs.ReorderedLaws.{all_reordered, every_reordered, any_reordered}
use Rattle.readings.proofs.RowsReordered.{goes_among, other_goes_on}
use Rattle.mmcif.specs.Acts.{line_act, heads_after, acts_from, acts_of}
use Rattle.mmcif.specs.Rows.{rows_of}
use Rattle.mmcif.proofs.ActsInParts.{acts_append}
use Rattle.mmcif.proofs.RowsOfActs.{rows_of_acts}
use Rattle.row_order.specs.Loops.{is_row, stands_among_rows}
use Rattle.row_order.specs.Order.{Reordered, columns_in, is_row_of, DifferInOrder}
use Rattle.row_order.proofs.LoopRows.{opened_by, loop_heads, act_in, loop_acts, in_short, in_given}

-- ---- what lines ask for, whatever their numbers
module _ (settings : Settings) where
  renumbered : (n m : ℕ) (heads : Heads) (lines : List (List ℕ)) → acts_in (acts_from settings n heads lines) ≡ acts_in (acts_from settings m heads lines)
  unfolding acts_from
  renumbered n m heads [] = refl
  renumbered n m heads (line ∷ lines) = ap (λ (l : List Act). line_act settings heads line ∷ l) (renumbered (suc n) (suc m) (moved_by heads line).heads lines)

  abbrev asks : Heads → List (List ℕ) → List Act
  asks heads lines = acts_in (acts_from settings 1 heads lines)

  acts_apart : (a b : List Asked) → acts_in (a ++ b) ≡ acts_in a ++ acts_in b
  acts_apart [] b = refl
  acts_apart (x ∷ a) b = ap (λ (l : List Act). x.act ∷ l) (acts_apart a b)

  asks_append : (heads : Heads) (a b : List (List ℕ)) → asks heads (a ++ b) ≡ asks heads a ++ asks (heads_after heads a) b
  asks_append heads a b =
      ap acts_in (acts_append settings 1 heads a b)
      ∙ acts_apart (acts_from settings 1 heads a) (acts_from settings (1 + length a) (heads_after heads a) b)
      ∙ ap (λ (l : List Act). asks heads a ++ l) (renumbered (1 + length a) 1 (heads_after heads a) b)

-- ---- the texts
module _ (settings : Settings) (t u : List ℕ) (d : Reordered t u) where
  abbrev heads : Heads
  heads = heads_after start_heads d.before

  abbrev columns : Columns
  columns = columns_in d

  among_too : every stands_among_rows d.reordered ≡ true
  among_too = sym (every_reordered stands_among_rows d.order) ∙ d.among

  -- what comes after finds the same state
  pub same_heads : heads_after heads d.loop ≡ heads_after heads d.reordered
  same_heads =
      loop_heads heads d.opened d.loop d.among
      ∙ ap (λ (b : Bool). opened_by b heads) (any_reordered is_row d.order)
      ∙ sym (loop_heads heads d.opened d.reordered among_too)

  -- what lines ask for in the loop's place
  in_parts : (lines : List (List ℕ)) → every stands_among_rows lines ≡ true
      → asks settings start_heads (d.before ++ (lines ++ d.after)) ≡ asks settings start_heads d.before ++ (map (act_in settings columns) lines ++ asks settings (heads_after heads lines) d.after)
  in_parts lines among =
      asks_append settings start_heads d.before (lines ++ d.after)
      ∙ ap (λ (l : List Act). asks settings start_heads d.before ++ l) (asks_append settings heads lines d.after)
      ∙ ap (λ (l : List Act). asks settings start_heads d.before ++ (l ++ asks settings (heads_after heads lines) d.after)) (loop_acts settings columns 1 heads refl d.opened lines among)

  pub acts_reordered : ActsReordered (acts_of settings t) (acts_of settings u)
  acts_reordered = record {
    before = asks settings start_heads d.before;
    part = map (act_in settings columns) d.loop;
    reordered = map (act_in settings columns) d.reordered;
    after = asks settings (heads_after heads d.loop) d.after;
    one = ap (asks settings start_heads) d.one ∙ in_parts d.loop d.among;
    other =
        ap (asks settings start_heads) d.other
        ∙ in_parts d.reordered among_too
        ∙ ap (λ (h : Heads). asks settings start_heads d.before ++ (map (act_in settings columns) d.reordered ++ asks settings h d.after)) (sym same_heads);
    order = Permᴰ.map (act_in settings columns) d.order;
  }

  -- ---- where no line of the one is refused
  module _ (goes : AllGoOn (acts_of settings t)) where
    short_acts : (lines : List (List ℕ)) → All GoesOn (map (act_in settings columns) lines) → All (λ line. length line ≤ longest) lines
    short_acts [] g = g
    short_acts (line ∷ lines) g = (in_short settings columns line g.0, short_acts lines g.1)

    loop_short : All (λ line. length line ≤ longest) d.loop
    unfolding acts_reordered
    loop_short =
        let r = acts_reordered in
        short_acts d.loop
        (all_before GoesOn r.part r.after (all_after GoesOn r.before (r.part ++ r.after) (subst (All GoesOn) r.one (goes_among (acts_of settings t) goes))))

    -- an atom's acts are those of its lines
    module _ (s : Site) where
      kept_lines : (lines : List (List ℕ)) → All (λ line. length line ≤ longest) lines
          → filter (keeps_of s) (map (act_in settings columns) lines) ≡ map (act_in settings columns) (filter (is_row_of settings columns s) lines)
      kept_lines lines short =
          filter_map (act_in settings columns) (keeps_of s) lines
          ∙ ap (map (act_in settings columns))
          (filter_same (λ line. length line ≤ longest) (λ line. keeps_of s (act_in settings columns line)) (is_row_of settings columns s) (λ line h. ap (any (is_of s)) (in_given settings columns line h)) lines short)

    same_atoms : ((s : Site) → filter (is_row_of settings columns s) d.loop ≡ filter (is_row_of settings columns s) d.reordered)
        → (s : Site) → filter (keeps_of s) (map (act_in settings columns) d.loop) ≡ filter (keeps_of s) (map (act_in settings columns) d.reordered)
    same_atoms atoms s =
        kept_lines s d.loop loop_short
        ∙ ap (map (act_in settings columns)) (atoms s)
        ∙ sym (kept_lines s d.reordered (all_reordered (λ line. length line ≤ longest) d.order loop_short))

    -- the rows of both texts are those of their acts
    pub rows_are : rows_in (acts_of settings t) ≡ rows_of settings t
    rows_are = rows_of_acts settings 1 start_heads (lines_of t) goes

    pub other_rows_are : rows_in (acts_of settings u) ≡ rows_of settings u
    other_rows_are = rows_of_acts settings 1 start_heads (lines_of u) (other_goes_on (acts_of settings t) (acts_of settings u) acts_reordered goes)

-- ---- the theorem
pub acts_differ : (settings : Settings) (t u : List ℕ) (d : DifferInOrder settings t u) → AllGoOn (acts_of settings t) → ActsDiffer (acts_of settings t) (acts_of settings u)
unfolding acts_reordered
acts_differ settings t u d goes =
    let one = sym (rows_are settings t u d.texts goes) in
    let other = sym (other_rows_are settings t u d.texts goes) in
    record {
      acts = acts_reordered settings t u d.texts;
      atoms = same_atoms settings t u d.texts goes d.atoms;
      chains = subst (λ (l : List Taken). ChainsMetAlike (sites l) (sites (rows_in (acts_of settings u)))) one (subst (λ (l : List Taken). ChainsMetAlike (sites (rows_of settings t)) (sites l)) other d.chains);
      residues = subst (λ (l : List Taken). ResiduesBeginAlike (sites l) (sites (rows_in (acts_of settings u)))) one (subst (λ (l : List Taken). ResiduesBeginAlike (sites (rows_of settings t)) (sites l)) other d.residues);
    }

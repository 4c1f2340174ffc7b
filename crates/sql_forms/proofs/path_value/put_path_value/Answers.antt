use Rattle.sql_forms.proofs.Common.{◌≡◌, ◌∙◌, Some, None, ap, length, refl, subst, sym, slice_get_read, slice_get, Base, Draft, PutsPath, question_of}
use Rattle.sql_forms.proofs.answers.PathAnswers.{no_items, ok_column_value, ok_field_value}
use Rattle.sql_forms.proofs.path_value.put_path_value.Goals as goal
use Rattle.sql_forms.proofs.path_value.put_path_value.Goals.{in-Column+then-is_empty, in-Column+else-is_empty, in_default}

pub returns-in-Some : goal.returns-in-Some
returns-in-Some c =
    let question = question_of c.args.context.now in
    let after : c.match-found.draft ≡ c.put_path.new.draft = elim c.match-found.branch [ in-Column+then-is_empty w ↦ w.draft-is | in-Column+else-is_empty w ↦ w.draft-is | in_default w ↦ w.draft-is ] in
    let leads = subst (λ (d : Draft). PutsPath question c.args.draft.now d c.args.place c.in_ok-path.path) (sym after) c.in_ok-path.ensures in
    let paths = c.put_path.new.draft.tree.paths.items in
    let found = c.index-found.result.now in
    let there = slice_get_read paths (length paths) c.in_ok-path.path found refl c.in_ok-path.ensures.leads.within c.index-found.ensures in
    let at : slice_get c.match-found.draft.tree.paths.items c.in_ok-path.path ≡ Some found = subst (λ (d : Draft). slice_get d.tree.paths.items c.in_ok-path.path ≡ Some found) (sym after) there in
    elim c.match-found.branch [
      | in-Column+then-is_empty w ↦ (
          let one : Some w.in-Column.slot ≡ Some c.in-Some.slot = sym w.column-is ∙ c.in-Some.is in
          let slot : w.in-Column.slot ≡ c.in-Some.slot = cc in
          ok_column_value question c.typed_trees_end_once_on_entities.ensures c.requires.translated.moment c.args.context.now.ranges.now c.requires.translated.ranges c.args.place c.in_ok-path.path
          c.requires.path c.args.value_type c.requires.value c.args.draft.now c.match-found.draft c.put.new.self leads c.put.result c.in-Some.slot found at (w.in-Column.is ∙ ap Base.Column slot)
          (no_items found.steps.items w.as_slice.result.now w.is_empty.result w.as_slice.ensures.value w.is_empty.ensures w.if-is_empty.true) c.put.ensures.ok)
      | in-Column+else-is_empty w ↦ (let none : None ≡ Some c.in-Some.slot = sym w.column-is ∙ c.in-Some.is in absurd (cc))
      | in_default w ↦ (let none : None ≡ Some c.in-Some.slot = sym w.column-is ∙ c.in-Some.is in absurd (cc))
    ]

pub returns-in-None : goal.returns-in-None
returns-in-None c =
    let question = question_of c.args.context.now in
    let after : c.match-found.draft ≡ c.put_path.new.draft = elim c.match-found.branch [ in-Column+then-is_empty w ↦ w.draft-is | in-Column+else-is_empty w ↦ w.draft-is | in_default w ↦ w.draft-is ] in
    let leads = subst (λ (d : Draft). PutsPath question c.args.draft.now d c.args.place c.in_ok-path.path) (sym after) c.in_ok-path.ensures in
    ok_field_value question c.typed_trees_end_once_on_entities.ensures c.requires.translated.moment c.args.context.now.ranges.now c.requires.translated.ranges c.args.place c.in_ok-path.path
    c.requires.path c.args.value_type c.requires.value c.args.draft.now c.match-found.draft c.put-in-None.new.self leads c.put-in-None.result c.put-in-None.ensures.ok

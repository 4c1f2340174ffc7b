use Rattle.std.proofs.Common.{◌≡◌, ◌∙◌, ℕ, List, IfOk, Some, ap, slice_get, string_bytes, subst, sym, unwrap_or}
use Rattle.odata_syntax.specs.Tree.{Tree}
use Rattle.odata_signatures.specs.NeededPaths.{VariablePaths, path_of}
use Rattle.odata_signatures.specs.Typed.{Scope}
use Rattle.odata_checked_filter.specs.FlatTree.{FlatTree}
use Rattle.odata_checked_filter.specs.PropertyPaths.{path_text}
use Rattle.odata_checked_filter.specs.private.PropertyPaths.{AreBound, NamedText, bound_in, text_named}
use Rattle.odata_checked_filter.proofs.flat.Places.{same_found}
use Rattle.odata_checked_filter.proofs.flat.Standing.{between_within}
use Rattle.odata_checked_filter.proofs.named.Texts.{name_text}
use Rattle.odata_checked_filter.proofs.named.Trees.{IsName, no_path_there, property_name, variable_name}
use Rattle.odata_checked_filter.proofs.needed.StepRows.{no_step}
use Rattle.odata_checked_filter.proofs.property_paths.base_text.Goals as goal

-- the text of a name's path
name_path_text :
    (list : FlatTree) (place : ℕ) (tree : Tree) (scope : Scope) (paths : VariablePaths) (bound : List NamedText) (beside : List ℕ)
    → IsName list place tree → AreBound scope paths bound → slice_get list.texts place ≡ Some beside
    → unwrap_or (text_named bound beside) beside ≡ path_text (path_of scope paths tree)
name_path_text list place tree scope paths bound beside named are at =
    let same : beside ≡ named.asked = same_found (slice_get list.texts place) beside named.asked at named.text_at in
    ap (λ (asked : List ℕ). unwrap_or (text_named bound asked) asked) same
    ∙ sym (name_text scope paths bound named.asked are)
    ∙ ap (λ (t : Tree). path_text (path_of scope paths t)) (sym named.is)

pub text-name-requires : goal.text-name-requires
text-name-requires c = between_within c.args.context.now.list.now c.args.place c.requires.stands.stop c.requires.stands.tree c.requires.stands.stands

pub node-requires : goal.node-requires
node-requires c = between_within c.args.context.now.list.now c.args.place c.requires.stands.stop c.requires.stands.tree c.requires.stands.stands

pub returns-in-Property : goal.returns-in-Property
returns-in-Property c scope paths stop tree stands are =
    let list = c.args.context.now.list.now in
    let bound = bound_in c.args.variables.now in
    let named = property_name list c.args.place stop c.in-Property.slot tree c.node.result stands c.node.ensures c.in-Property.is in
    subst (λ (wanted : List ℕ). IfOk c.name_path.result (λ text. string_bytes text ≡ wanted))
    (name_path_text list c.args.place tree scope paths bound c.text-name.result.now named are c.text-name.ensures) c.name_path.ensures

pub returns-in-Variable : goal.returns-in-Variable
returns-in-Variable c scope paths stop tree stands are =
    let list = c.args.context.now.list.now in
    let bound = bound_in c.args.variables.now in
    let named = variable_name list c.args.place stop c.in-Variable.level tree c.node.result stands c.node.ensures c.in-Variable.is in
    subst (λ (wanted : List ℕ). IfOk c.name_path-in-Variable.result (λ text. string_bytes text ≡ wanted))
    (name_path_text list c.args.place tree scope paths bound c.text-name.result.now named are c.text-name.ensures) c.name_path-in-Variable.ensures

pub returns-in_default : goal.returns-in_default
returns-in_default c scope paths stop tree stands are =
    let list = c.args.context.now.list.now in
    c.new.ensures.bytes
    ∙ sym (ap path_text (no_path_there list c.args.place stop tree c.node.result scope paths stands c.node.ensures (no_step list c.args.place c.node.result c.node.ensures c.requires.base) c.in_default.not-Property c.in_default.not-Variable))

use Rattle.std.proofs.Common.{◌≡◌, ◌+◌, ◌*◌, ◌-◌, ◌<◌, length}
use Rattle.edm_rows.proofs.ContextLemmas.{HeldUpTo, ContextUpTo}
use Rattle.edm_rows.proofs.+pass.Given as goal

-- how deep values may nest counts first, and at one depth the order of the calls
abbrev pub decreases-members::pass_members : goal.decreases-members::pass_members
decreases-members::pass_members g l = 8 * l.cache.now.depth + 5

abbrev pub decreases-passed_value::items_end : goal.decreases-passed_value::items_end
decreases-passed_value::items_end g l = 8 * l.cache.now.depth + 5

abbrev pub decreases-passed_value::value_end : goal.decreases-passed_value::value_end
decreases-passed_value::value_end g l = 8 * l.cache.now.depth + 4

abbrev pub decreases-passed_value::other_end : goal.decreases-passed_value::other_end
decreases-passed_value::other_end g l = 8 * l.cache.now.depth + 3

abbrev pub decreases-passed_value::sure_end : goal.decreases-passed_value::sure_end
decreases-passed_value::sure_end g l = 8 * l.cache.now.depth + 2

abbrev pub decreases-passed_value::record_end : goal.decreases-passed_value::record_end
decreases-passed_value::record_end g l = 8 * l.cache.now.depth + 1

abbrev pub decreases-passed_value::array_end : goal.decreases-passed_value::array_end
decreases-passed_value::array_end g l = 8 * l.cache.now.depth + 1

-- some values fit the items before the offset
abbrev pub invariant-passed_value::items_end-items : goal.invariant-passed_value::items_end-items
invariant-passed_value::items_end-items g l =
    (l.cache.depth ≡ l.initial.cache.depth) × HeldUpTo l.context l.slot l.initial.cache.depth l.from l.place

abbrev pub decreases-passed_value::items_end-items : goal.decreases-passed_value::items_end-items
decreases-passed_value::items_end-items g l = length l.context.line - l.place

-- the slots that were seen are passed
abbrev pub invariant-members::pass_members-members : goal.invariant-members::pass_members-members
invariant-members::pass_members-members g l =
    (l.cache.depth ≡ l.initial.cache.depth) × (l.order < 1024) × ContextUpTo l.context l.plan l.initial.cache.depth l.from l.place (g.M.SeenSlots.bits l.seen)

abbrev pub decreases-members::pass_members-members : goal.decreases-members::pass_members-members
decreases-members::pass_members-members g l = length l.context.line - l.place

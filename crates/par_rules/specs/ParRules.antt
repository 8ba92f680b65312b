-- The rules of `startp`, which starts a branch of a PAR, and of `endp`, which ends it (T414 compiler writer's guide).
-- Their tests are in rising order of the numbers of rules.
use Rattle.std.specs.Prelude.{ℕ, ◌+◌, ◌-◌, nat_lt, ◌==◌, ◌&&◌, ◌||◌, not, Bool, true, false, if◌then◌else◌, ℤ, pos}
use Rattle.std.specs.Prelude.{◌*ℤ◌, List, [], ◌∷◌, length, slice_get, Option, Some, None, option_map}
use Rattle.std.specs.List.{list_all}
use Rattle.module_format.specs.Rows.{Fact}
use Rattle.module_format.specs.declared.fact.Fact.TheVariants.{Number, Pointer}
use Rattle.module_format.specs.declared.fact.Step.TheVariants.{Word}
use Rattle.module_format.specs.Contents.{Contents, Par, Label, label_at}
use Rattle.module_format.specs.Regions.{is_frame}
use Rattle.certificate.specs.Branches.{numbered_branch}
use Rattle.certificate.specs.Starting.{may_give_words, leaves_loops}
use Rattle.certificate.specs.Siblings.{is_beside, has_other_ends, leaves_hidden_words}
use Rattle.machine_state.specs.BranchContexts.{context_of}
use Rattle.machine_state.specs.JoinLookups.{Found, found_at}
use Rattle.machine_state.specs.LocalStep.{target}
use Rattle.states.specs.declared.rule.Rule.TheVariants as rules
use Rattle.states.specs.declared.known.Mode.{Mode}
use Rattle.states.specs.declared.known.Mode.TheVariants.{Plain, Enabling, Disabling, Starting}
use Rattle.states.specs.State.{State, is_same_number}
use Rattle.states.specs.Below.{is_plain, step_implies, cost, agrees}
use Rattle.rulings.specs.Rulings.{Ruling, Site, starts, ends, breaks, uses, wants, outside_alternation, pays}
use Rattle.rulings.specs.Rulings.{without_registers}
use Rattle.rulings.specs.Pointers.{is_near_pointer}
use Rattle.par_rules.specs.Gifts.{started_in, has_end_to_give, may_give_parameters}
use Rattle.par_rules.specs.Gifts.{has_scheduling_words}
use Rattle.par_rules.specs.Openings.{is_prepared}
use Rattle.par_rules.specs.Comparisons.{branch_view, is_after, agrees_after, cost_after, ends_below}

-- ---- what registers name

-- the exact pointer to word k of the frame
abbrev pub is_at_word : ℤ → Fact → Bool
is_at_word k (Pointer region lo hi step) = is_frame region && is_same_number lo (pos 4 *ℤ k)
    && is_same_number hi (pos 4 *ℤ k)
is_at_word k fact = false

-- the same, with a step of words
abbrev pub is_workspace : ℤ → Fact → Bool
is_workspace k (Pointer region lo hi step) =
    is_frame region && is_same_number lo (pos 4 *ℤ k) && is_same_number hi (pos 4 *ℤ k) && step_implies step Word
is_workspace k fact = false

-- the branch that begins a constant number of bytes after the instruction
abbrev pub named_branch : Site → Fact → Option Found
named_branch site (Number lo hi) =
    if is_same_number lo hi then found_at site.contents (target (site.at + site.length) lo) else None
named_branch site fact = None

-- ---- which branch is started

-- the branch is beside those that the process has started
abbrev pub is_apart : Contents → State → Found → Bool
is_apart m s found = list_all (is_beside found.branch) (started_in m s.mode)

-- Each end of the branch is there to be given, and was not given to one that the process has started.
abbrev pub ends_are_free : Contents → State → Found → Bool
ends_are_free m s found =
    list_all (has_end_to_give m s.context found.par) found.branch.ends
    && list_all (has_other_ends m (context_of m found)) (started_in m s.mode)

-- the branch is the first of its PAR, or the one after those that the process has started
abbrev pub is_next : Mode → Found → Bool
is_next Plain found = found.number == 0
is_next Enabling found = false
is_next (Disabling done) found = false
is_next (Starting row started) found = (found.row == row) && (found.number == started)

-- It is the next one of a PAR that is here, and A is its workspace.
abbrev pub is_in_turn : State → Fact → Found → Bool
is_in_turn s a found =
    is_next s.mode found && (found.par.context == s.context) && is_same_number found.par.depth s.depth
    && is_workspace found.branch.workspace a

-- The context has the words and the parameters that the branch is given, and none of them is hidden.
abbrev pub may_give : Contents → State → Found → Bool
may_give m s found =
    may_give_words m s.context found.branch && may_give_parameters m s.context found.branch
    && leaves_hidden_words m (context_of m found) found.par

-- ---- at the first start

-- what is wanted at the first start of a PAR alone, which a process begins in the middle of nothing
abbrev pub at_first : Mode → Bool → Bool
at_first mode holds = not (is_plain mode) || holds

-- All is prepared that the PAR wants, and there is a label after it.
abbrev pub may_open : Contents → State → Par → Bool
may_open m s par =
    is_prepared m s par && elim (label_at m par.successor) [ None ↦ false | Some t ↦ is_after par t ]

-- the label after the PAR, which is compared and paid at the first start
abbrev pub label_after : Contents → Mode → Par → Option Label
label_after m mode par = if is_plain mode then label_at m par.successor else None

-- ---- startp

-- what a start pays for the label of the branch, and for the one after the PAR
abbrev pub cost_of_start : Contents → State → Found → Label → ℕ
cost_of_start m s found t =
    cost (branch_view m (context_of m found) found.branch s) t + cost_after s (label_after m s.mode found.par)

-- what is known implies what these labels say
abbrev pub start_agrees : Contents → State → Found → Label → Bool
start_agrees m s found t =
    agrees (branch_view m (context_of m found) found.branch s) t
    && agrees_after found.par s (label_after m s.mode found.par)

-- the offset of the label after the PAR, if it is compared
abbrev pub offset_after : Par → Option Label → List ℕ
offset_after par None = []
offset_after par (Some t) = par.successor ∷ []

-- the offsets of these labels
abbrev pub labels_of_start : Contents → State → Found → List ℕ
labels_of_start m s found = found.branch.entry ∷ offset_after found.par (label_after m s.mode found.par)

-- The process goes on with one more branch started; the facts of words stay.
abbrev pub after_start : Found → ℕ → State → State
after_start found price s =
    record (without_registers s) { number = s.number - price; mode = Starting found.row (found.number + 1) }

-- the labels are paid, and what they say is known
unfoldable pub pays_labels : Site → Found → Label → State → Ruling
pays_labels site found t s =
    let m = site.contents in
    let price = cost_of_start m s found t in
    if nat_lt s.number price then breaks rules.Budget
    else wants (start_agrees m s found t) rules.Label (starts (after_start found price s) (labels_of_start m s found))

-- this label, unless there is none
unfoldable pub with_label : Site → ℕ → (Label → Ruling) → Ruling
with_label site at k = elim (label_at site.contents at) [ None ↦ breaks rules.Par | Some t ↦ k t ]

-- This branch is started, with its workspace in A.
unfoldable pub starts_branch : Site → State → Fact → Found → Ruling
starts_branch site s a found =
    let m = site.contents in
    wants (is_apart m s found) rules.RegionsMeet
    (wants (ends_are_free m s found) rules.Channel
    (outside_alternation s.mode
    (wants (at_first s.mode (leaves_loops m found.par)) rules.Forward
    (wants (is_in_turn s a found) rules.Par
    (wants (may_give m s found) rules.Par
    (wants (at_first s.mode (may_open m s found.par)) rules.Par
    (with_label site found.branch.entry (λ t.
    wants (has_scheduling_words m (context_of m found) found.branch) rules.OwnWord
    (pays site s (pays_labels site found t))))))))))

-- startp: a branch begins as many bytes after the instruction as B says, with its workspace in A
unfoldable pub startp_rule : Site → State → Ruling
startp_rule site s =
    uses s.stack.a (λ a. uses s.stack.b (λ b.
    wants (is_near_pointer a) rules.Pointer
    (elim (named_branch site b) [
      | None ↦ outside_alternation s.mode (breaks rules.Par)
      | Some found ↦ starts_branch site s a found
    ])))

-- ---- endp

-- the PAR that a process in this mode ends: it has started all branches, or is one itself
abbrev pub ended_par : Contents → ℕ → Mode → Option Par
ended_par m context Plain = option_map (λ found. found.0) (numbered_branch m context)
ended_par m context Enabling = None
ended_par m context (Disabling done) = None
ended_par m context (Starting row started) = elim (slice_get m.pars row) [
  | None ↦ None
  | Some par ↦ if started == length par.branches then Some par else None
]

-- A branch leaves what the label after its PAR says, if there is that label. The process that has started the branches
-- compared it before.
abbrev pub leaves_agreed : Contents → Par → State → Bool
leaves_agreed m par s =
    not (is_plain s.mode) || elim (label_at m par.successor) [ None ↦ true | Some t ↦ ends_below m s t ]

-- endp: the process ends, with the block of its PAR in A
unfoldable pub endp_rule : Site → State → Ruling
endp_rule site s =
    uses s.stack.a (λ a.
    wants (is_near_pointer a) rules.Pointer
    (outside_alternation s.mode
    (elim (ended_par site.contents s.context s.mode) [
      | None ↦ breaks rules.Par
      | Some par ↦
          wants (is_at_word par.block a) rules.Par
          (pays site s (λ s. wants (leaves_agreed site.contents par s) rules.Label ends))
    ])))

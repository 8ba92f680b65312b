-- What the first start of a PAR finds out is what the definitions plan by.
use Rattle.std.proofs.Common.{◌≡◌, ℕ, List, [], ◌∷◌, Option, map, length, ap, subst, ◌∙◌}
use Rattle.module_format.specs.declared.rows.Parameter.{Parameter}
use Rattle.module_format.specs.Contents.{Contents}
use Rattle.module_format.specs.Contexts.{parameters_at}
use Rattle.machine_state.specs.Holding.{Holding}
use Rattle.machine_state.specs.StartPlans.{Plan, first_plan, first_faults, first_fault, word_in, share_by}
use Rattle.machine_state.specs.JoinLookups.{Found, named_from}
use Rattle.machine_state.specs.BranchShares.{frame_base, frame_address, holding_of}
use Rattle.machine_state.specs.Joins.{join_after}
use Rattle.machine_state.specs.Memory.{Memory}
use Rattle.machine_state.specs.Spans.{less}
use Rattle.machine_state.specs.Views.{holding_view}
use Rattle.machine_state.specs.World.{Join}
use Rattle.joins.specs.Opened.{IsOpening, opening_plan, opened_rest}
use Rattle.joins.specs.declared.opening.Opening.{Opening}

module _ (m : Contents) (p workspace : ℕ) (h : Holding) (memory : Memory) (f : Found) where
  abbrev first : Plan
  first = first_plan m p workspace h memory f

  -- but for the members
  abbrev alone : Plan → Plan
  alone plan = record plan { members = [] }

  plan_opened : (o : Opening) (ps : List Parameter) → ps ≡ parameters_at m f.par.context
      → IsOpening memory h workspace f.par ps o → opening_plan o f ps ≡ alone first
  plan_opened o ps same is =
      let base = frame_base workspace f.par.depth in
      let with_base : ℕ → Plan = λ b. record (opening_plan o f ps) { base = b } in
      let with_parameters : List Parameter → Plan = λ l. record (with_base base) { parameters = l } in
      let with_addresses : List (Option ℕ) → Plan = λ l.
      record (with_parameters (parameters_at m f.par.context)) { addresses = l } in
      let with_rest : Holding → Plan = λ r. record (with_addresses first.addresses) { rest = r } in
      let addresses : o.addresses.items ≡ first.addresses =
      is.addresses
      ∙ (ap (λ (b : ℕ). map (word_in h memory b) o.words.items) is.base
      ∙ ap (map (word_in h memory base)) (is.words ∙ ap (named_from f.par 0) same)) in
      let rest : holding_view o.rest ≡ opened_rest (length memory) h base f.par =
      is.rest ∙ ap (λ (b : ℕ). opened_rest (length memory) h b f.par) is.base in
      ap with_base is.base ∙ (ap with_parameters same ∙ (ap with_addresses addresses ∙ ap with_rest rest))

  module _ {mine : Contents} {cells : Memory} {held : Holding} {o : Opening} {ps : List Parameter}
      (is_mine : mine ≡ m) (is_memory : cells ≡ memory) (is_held : held ≡ h) (same : ps ≡ parameters_at m f.par.context)
      (is : IsOpening cells held workspace f.par ps o) where
    opened_here : opening_plan o f ps ≡ alone first
    opened_here = plan_opened o ps same
        (subst (λ (c : Memory). IsOpening c h workspace f.par ps o) is_memory
        (subst (λ (g : Holding). IsOpening cells g workspace f.par ps o) is_held is))

    -- the tests are those of the plan
    pub tests_planned : (to : ℕ) → first_fault (first_faults mine cells held (opening_plan o f ps) f to)
        ≡ first_fault (first_faults m memory h first f to)
    tests_planned to =
        ap (λ (c : Contents). first_fault (first_faults c cells held (opening_plan o f ps) f to)) is_mine
        ∙ (ap (λ (c : Memory). first_fault (first_faults m c held (opening_plan o f ps) f to)) is_memory
        ∙ (ap (λ (g : Holding). first_fault (first_faults m memory g (opening_plan o f ps) f to)) is_held
        ∙ ap (λ (plan : Plan). first_fault (first_faults m memory h plan f to)) opened_here))

    -- the branch holds what the plan gives
    pub own_planned : holding_of mine (length cells) (share_by (opening_plan o f ps) f.branch)
        ≡ holding_of m (length memory) (share_by first f.branch)
    own_planned =
        ap (λ (c : Contents). holding_of c (length cells) (share_by (opening_plan o f ps) f.branch)) is_mine
        ∙ (ap (λ (c : Memory). holding_of m (length c) (share_by (opening_plan o f ps) f.branch)) is_memory
        ∙ ap (λ (plan : Plan). holding_of m (length memory) (share_by plan f.branch)) opened_here)

    -- the join is the one that the plan opens
    pub join_planned : (new : ℕ) (rest : Holding) (join : Join)
        → rest ≡ less (length cells) (holding_view o.rest) (share_by (opening_plan o f ps) f.branch)
        → join ≡ record {
          row = f.row;
          block = frame_address o.base f.par.block;
          base = o.base;
          parameters = o.addresses.items;
          started = 1;
          rest = rest;
          members = p ∷ new ∷ [];
        }
        → join ≡ join_after (length memory) first f new
    join_planned new rest join left is_join =
        let by_plan : Memory → Plan → Join = λ c plan.
        record (join_after (length c) plan f new) { members = p ∷ new ∷ [] } in
        is_join
        ∙ (ap (λ (r : Holding). record (by_plan cells (opening_plan o f ps)) { rest = r }) left
        ∙ (ap (λ (c : Memory). by_plan c (opening_plan o f ps)) is_memory ∙ ap (by_plan memory) opened_here))

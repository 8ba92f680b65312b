-- After a start the process lives on among the starts of its PAR, and the branch lives at its label.
use Rattle.std.proofs.Common.{◌≡◌, ℕ, ◌+◌, ◌<◌, true, false, inl, inr, List, [], length, Some, refl, sym}
use Rattle.std.proofs.Common.{◌∙◌, subst, pos, arith}
use Rattle.module_format.specs.Contents.{Contents}
use Rattle.certificate.specs.Branches.{numbered_branch}
use Rattle.machine_state.specs.declared.process.Condition.TheVariants.{Ready}
use Rattle.machine_state.specs.declared.process.Mode.TheVariants as machine_modes
use Rattle.machine_state.specs.BranchContexts.{context_of}
use Rattle.machine_state.specs.Happens.{between}
use Rattle.machine_state.specs.Holding.{Holding}
use Rattle.machine_state.specs.JoinLookups.{Found}
use Rattle.machine_state.specs.Memory.{Memory}
use Rattle.machine_state.specs.Site.{Local}
use Rattle.states.specs.declared.known.Mode.{Mode}
use Rattle.states.specs.declared.known.Mode.TheVariants.{Plain, Enabling, Disabling, Starting}
use Rattle.states.specs.State.{State, label_state}
use Rattle.rulings.specs.Fitting.{After, Caller}
use Rattle.rulings.specs.Meaning.{Layout, Activation, IsWellFormed, with_turns, owed}
use Rattle.rulings.specs.Regions.{scope_in}
use Rattle.rulings.proofs.Agreeing.{agree_keeps, after_agrees}
use Rattle.rulings.proofs.Combining.{elsewhere}
use Rattle.start_laws.specs.BranchLabels.{BranchLabel, owed_at_label}
use Rattle.certified_worlds.specs.Certified.{Reaches, state_at, IsCertified}
use Rattle.certified_worlds.specs.Point.{Began, Behind, nobody_waits, BehindIn, owed_at, Decodes}
use Rattle.certified_worlds.proofs.EndsAreInOrder.{after_procedures}
use Rattle.certified_worlds.proofs.GivenStates.{is_given, given_label, label_is_start}
use Rattle.certified_worlds.proofs.LivesAs.{LivesAs}
use Rattle.certified_worlds.proofs.StartsKeepPars.{began_by}
use Rattle.certified_worlds.proofs.Steps.{enter, lives_at, point_between}

-- ---- the mode of a start

-- those that wait for a return wait for the PAR
unasked : (m : Contents) (h : Holding) (began : Began) (q : Mode) (row started context : ℕ) (layout : Layout)
    (memory : Memory) (callers : List Caller) → q ≡ Starting row started
    → BehindIn m h began q context layout memory callers
unasked m h began Plain row started context layout memory callers is = absurd (cc)
unasked m h began Enabling row started context layout memory callers is = absurd (cc)
unasked m h began (Disabling done) row started context layout memory callers is = absurd (cc)
unasked m h began (Starting r n) row started context layout memory callers is = tt

-- what is owed is the number alone
pub owed_among : (q : Mode) (row started : ℕ) (s : State) (act : Activation) (callers : List Caller)
    → q ≡ Starting row started → owed_at q s act callers ≡ s.number
owed_among Plain row started s act callers is = absurd (cc)
owed_among Enabling row started s act callers is = absurd (cc)
owed_among (Disabling done) row started s act callers is = absurd (cc)
owed_among (Starting r n) row started s act callers is = refl

not_plain : (q : Mode) (row started : ℕ) → q ≡ Starting row started → q ≡ Plain → ⊥
not_plain q row started is plain = let no' : Starting row started ≡ Plain = sym is ∙ plain in cc

module _ (m : Contents) (d : Decodes m) (wf : IsWellFormed m) (c : IsCertified m) where
  -- ---- the starter

  -- It goes on in the state after the instruction: no label is among starts.
  pub starter_lives : (h : Holding) (began : Began) (act : Activation) (at : ℕ) (s : State) (l : Local)
      (callers : List Caller) (row started : ℕ) → s.mode ≡ Starting row started → Reaches m at (Some s)
      → at < length m.code → After m h machine_modes.Starting act s l
      → LivesAs m h began l.memory (record {
        registers = between at l.registers;
        mode = machine_modes.Starting;
        condition = Ready;
      }) s.number s act
  starter_lives h began act at s l callers row started mode r low after =
      let entered = enter m d wf c h machine_modes.Starting act at s r low in
      let st = subst (λ (state : State). state_at m at (Some s) ≡ Some state)
      (entered.stays (not_plain s.mode row started mode)).0 entered.stands in
      record {
        state_is = refl;
        act_is = refl;
        lives = record {
          point = point_between m d wf c l.registers machine_modes.Starting Ready act at (Some s) s callers r low st;
          claim = λ later size agree bytes. record {
            here = elsewhere at at (pos 0) (after_agrees later size (λ place e. agree place e refl) after);
            behind = unasked m h began s.mode row started s.context act.layout later callers mode;
          };
          room = λ place e. let no' : false ≡ true = e in absurd (cc);
          sends = λ e is. absurd (cc);
          fills = λ old new fills. agree_keeps h old new fills.size (λ place e. fills.others place e refl) m
              (scope_in m s act.layout);
          named = after.named;
          behind = unasked m h began s.mode row started s.context act.layout l.memory callers mode;
          known_length = λ e is. absurd (elim is [ inl out ↦ cc | inr takes ↦ cc ]);
          paid = let same = owed_among s.mode row started s act callers mode in omega (arith, same);
        };
      }

  -- ---- the branch

  -- It is where the row says, in the activation of its starter but for the turns of its loops, and no activation waits
  -- for its return.
  pub branch_lives : (found : Found) (label : BranchLabel m found) (h : Holding) (act : Activation) (l : Local)
      → numbered_branch m (context_of m found) ≡ Some (found.par, found.branch)
      → After m h machine_modes.Plain (with_turns label.turns act) (label_state label.label) l
      → LivesAs m h (began_by m found act.layout) l.memory (record {
        registers = between found.branch.entry l.registers;
        mode = machine_modes.Plain;
        condition = Ready;
      }) (owed_at_label label.label label.turns) (label_state label.label) (with_turns label.turns act)
  branch_lives found label h act l numbered after =
      let at = found.branch.entry in
      let r = c.holds.starts at label.low (label_is_start m at label.label label.at) in
      let st : state_at m at r.0 ≡ Some (label_state label.label) =
      is_given m at r.0 (label_state label.label) (given_label m at label.label label.at) in
      let behind : Behind m h (began_by m found act.layout) label.label.context act.layout l.memory [] =
      nobody_waits label.context refl (λ some. subst (λ (n : ℕ). length m.procedures < n) (sym label.context)
      (after_procedures m (context_of m found) found.par found.branch numbered)) in
      subst (λ (n : ℕ). LivesAs m h (began_by m found act.layout) l.memory (record {
        registers = between at l.registers;
        mode = machine_modes.Plain;
        condition = Ready;
      }) n (label_state label.label) (with_turns label.turns act))
      (let none : owed (label_state label.label) (with_turns label.turns act) + 0
      ≡ owed (label_state label.label) (with_turns label.turns act) = omega arith in none)
      (lives_at m d wf c h (began_by m found act.layout) machine_modes.Plain (with_turns label.turns act) at r.0
      (label_state label.label) l [] r.1 label.low st refl after behind)

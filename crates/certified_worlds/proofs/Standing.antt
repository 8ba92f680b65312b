-- Where a process is that is at the last byte of an instruction, and the join that it has open.
use Rattle.std.proofs.Common.{◌≡◌, ℕ, ◌+◌, Some, sym, ◌∙◌, subst, arith}
use Rattle.module_format.specs.Contents.{Contents}
use Rattle.machine_state.specs.declared.process.Condition.{Condition}
use Rattle.machine_state.specs.declared.process.Condition.TheVariants.{Ready}
use Rattle.machine_state.specs.declared.process.Mode as machine
use Rattle.machine_state.specs.declared.process.Registers.{Registers}
use Rattle.machine_state.specs.declared.process.Task.{Task}
use Rattle.machine_state.specs.Happens.{between}
use Rattle.machine_state.specs.Holding.{Holding}
use Rattle.machine_state.specs.JoinLookups.{opened_by}
use Rattle.machine_state.specs.Memory.{Memory}
use Rattle.machine_state.specs.Site.{Local}
use Rattle.machine_state.specs.World.{World, Join, held}
use Rattle.states.specs.declared.known.Mode.TheVariants.{Starting}
use Rattle.states.specs.State.{State}
use Rattle.rulings.specs.Fitting.{Situation}
use Rattle.rulings.specs.Meaning.{Activation, IsWellFormed}
use Rattle.certified_worlds.specs.Certified.{IsCertified}
use Rattle.certified_worlds.specs.Invariant.{Process, Opener, Holds}
use Rattle.certified_worlds.specs.Lives.{Meets, Lives}
use Rattle.certified_worlds.specs.Pending.{IsStarter, StartsHere}
use Rattle.certified_worlds.specs.Point.{Began, Decodes, Point}
use Rattle.certified_worlds.proofs.LivesAs.{LivesAs}
use Rattle.certified_worlds.proofs.OrderlyWorlds.{IsAtLastByte}
use Rattle.certified_worlds.proofs.ParsStay.{opened_is}
use Rattle.certified_worlds.proofs.Steps.{here_of}

-- its row of the table, how it lives and at which point, the situation that its rule is about, and what it can change
pub record Standing (m : Contents) (w : World) (h : Holds m w) (p : ℕ) (t : Task) : Type 0 where
  pub row : Process m w h.began h.dues p t
  pub l : Lives m (held row.role) row.start w.memory t row.due
  pub point : Point m t
  pub x : Situation
  pub local : Local

abbrev pub standing : {m : Contents} {w : World} {h : Holds m w} {p : ℕ} {t : Task} → Decodes m → IsWellFormed m
    → IsCertified m → IsAtLastByte m w h p t → Standing m w h p t
standing {m} {w} {h} {p} {t} d wf c r = record {
  row = h.table.each p t r.here;
  l = r.lives;
  point = r.lives.point;
  x = here_of m d wf c (held (h.table.each p t r.here).role) r.lives.point.act w.memory t r.lives.point.state
      r.lives.point.instr;
  local = record { registers = t.registers; memory = w.memory };
}

module _ {m : Contents} {w : World} {h : Holds m w} {p : ℕ} {t : Task} (r : IsAtLastByte m w h p t) where
  -- what lives ready after the instruction lives at the next byte
  pub lives_next : (registers : Registers) {mode : machine.Mode} {g : Holding} {began : Began} {memory : Memory}
      {due : ℕ} {s : State} {act : Activation}
      → LivesAs m g began memory (record {
        registers = between (t.registers.began + r.lives.point.instr.len) registers;
        mode = mode;
        condition = Ready;
      }) due s act
      → LivesAs m g began memory (record {
        registers = between (t.registers.at + 1) registers;
        mode = mode;
        condition = t.condition;
      }) due s act
  lives_next registers {mode} {g} {began} {memory} {due} {s} {act} lives =
      let at : t.registers.began + r.lives.point.instr.len ≡ t.registers.at + 1 =
      (let begun = r.lives.point.reading.at_is in let last = r.last in omega (arith, begun, last)) in
      subst (λ (condition : Condition). LivesAs m g began memory (record {
        registers = between (t.registers.at + 1) registers;
        mode = mode;
        condition = condition;
      }) due s act) (sym r.ready)
      (subst (λ (k : ℕ). LivesAs m g began memory (record {
        registers = between k registers;
        mode = mode;
        condition = Ready;
      }) due s act) at lives)

  -- the join that it has open, what waits for that, and that it is among its starts
  pub record OwnJoin (j : Join) : Type 0 where
    pub is_open : (h.table.each p t r.here).role.opened ≡ Some j
    pub opener : Opener m w h.began h.dues h.pending_dues h.table p (h.table.each p t r.here).role j
    pub starter : IsStarter m t r.lives.point opener.after.par j opener.after.act

  abbrev opens : {j : Join} → opened_by w p ≡ Some j → (h.table.each p t r.here).role.opened ≡ Some j
  opens opened = sym (opened_is w.roles p (h.table.each p t r.here).role (h.table.each p t r.here).has_role) ∙ opened

  abbrev pub own_join : (j : Join) → opened_by w p ≡ Some j → OwnJoin j
  own_join j opened =
      let row = h.table.each p t r.here in
      let opener = h.pending p row.role j row.has_role (opens opened) in
      record {
        is_open = opens opened;
        opener = opener;
        starter = subst (λ (meets : Meets m (held row.role) row.start w.memory t row.due).
            StartsHere meets opener.after.par j opener.after.act) r.is (opener.starter t r.here);
      }

  -- a state among starts is among those of this join
  pub same_starts : {j : Join} → OwnJoin j → {row started : ℕ} → r.lives.point.state.mode ≡ Starting row started
      → (row ≡ j.row) × (started ≡ j.started)
  same_starts {j} own {row} {started} mode =
      let both : Starting row started ≡ Starting j.row j.started = sym mode ∙ own.starter.mode in
      ((cc), (cc))

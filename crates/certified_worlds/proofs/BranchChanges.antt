-- What a branch changes within what it began with leaves what its opener goes on with.
use Rattle.std.proofs.Common.{◌≡◌, ◌≢◌, ◌⊎◌, ℕ, ◌+◌, ◌<◌, true, false, Bool, inl, inr, List, length, Option, Some}
use Rattle.std.proofs.Common.{None, ℤ, refl, sym, ap, ◌∙◌, subst, arith}
use Rattle.std.specs.Prelude.{slice_get}
use Rattle.std.proofs.lemmas.Bool.{and_parts, cases_Bool}
use Rattle.module_format.specs.Contents.{Contents, Par, Branch}
use Rattle.certificate.specs.Branches.{numbered_branch}
use Rattle.certificate.specs.Rights.{may_write_word, is_among}
use Rattle.machine_state.specs.declared.process.Task.{Task}
use Rattle.machine_state.specs.Frame.{ChangesOwn}
use Rattle.machine_state.specs.Holding.{Holding, may_read, may_write}
use Rattle.machine_state.specs.Memory.{Memory, byte_at}
use Rattle.machine_state.specs.Waiting.{is_member}
use Rattle.machine_state.specs.World.{Join}
use Rattle.machine_state.proofs.Reading.{word_at_same}
use Rattle.rulings.specs.Buffers.{IsByte}
use Rattle.rulings.specs.Fitting.{Caller}
use Rattle.rulings.specs.Meaning.{Layout, words_in, frame_word, word_at_place}
use Rattle.rulings.specs.Regions.{Scope, scope_of, scope_in, KeepsMemory, HoldsNamed}
use Rattle.rulings.proofs.Agreeing.{agree_keeps}
use Rattle.rulings.proofs.Combining.{same_frame}
use Rattle.rulings.proofs.Regions.{bytes_read}
use Rattle.rulings.proofs.Within.{is_starting, scope_still}
use Rattle.rulings.proofs.Words.{means_same, frame_word_is}
use Rattle.share_laws.specs.Climbing.{ChangesWithin, IsRung}
use Rattle.share_laws.proofs.Climbing.{changes_climb, other_words_stay}
use Rattle.certified_worlds.specs.Point.{Began, Behind}
use Rattle.certified_worlds.specs.Lives.{awaits, Lives}
use Rattle.certified_worlds.specs.Pending.{AfterPar, IsOut, Pending, IsMember}
use Rattle.certified_worlds.proofs.BehindKeeps.{behind_keeps, behind_lifts, behind_named, behind_of}

-- ---- one process

-- what a process began with
abbrev pub scope_began : Contents → Began → Scope
scope_began m began = scope_of m began.context began.layout

-- what an activation changes is within what its process began with
pub within_began : {m : Contents} {h : Holding} {began : Began} {context : ℕ} {layout : Layout} {old new : Memory}
    {callers : List Caller} → Behind m h began context layout old callers
    → HoldsNamed m h (scope_of m context layout) old
    → ChangesWithin m h (scope_of m context layout) old new → ChangesWithin m h (scope_began m began) old new
within_began behind named changes = record { own = changes.own; keeps = behind_lifts behind named changes.keeps }

-- a process that starts no branches
module _ {m : Contents} {h : Holding} {began : Began} {memory : Memory} {t : Task} {due : ℕ}
    (l : Lives m h began memory t due) (still : is_starting l.point.state.mode ≡ false) where
  abbrev whole : Scope
  whole = scope_of m l.point.state.context l.point.act.layout

  same_scope : scope_in m l.point.state l.point.act.layout ≡ whole
  same_scope = scope_still m l.point.state.context l.point.state.mode l.point.act.layout still

  behind_now : Behind m h began l.point.state.context l.point.act.layout memory l.point.callers
  behind_now = behind_of {m = m} {h = h} {began = began} l.point.state.mode {context = l.point.state.context}
      {layout = l.point.act.layout} {memory = memory} {callers = l.point.callers} still l.behind

  named_now : HoldsNamed m h whole memory
  named_now = subst (λ (scope : Scope). HoldsNamed m h scope memory) same_scope l.named

  -- it has what it began with
  pub has_began : HoldsNamed m h (scope_began m began) memory
  has_began = behind_named behind_now named_now

  -- What its activation changes is within what it began with.
  pub step_within : (new : Memory) → ChangesOwn h memory new → KeepsMemory m h whole memory new
      → ChangesWithin m h (scope_began m began) memory new
  step_within new own keeps = within_began behind_now named_now (record { own = own; keeps = keeps })

  -- So is what comes to it of a message that it waits for.
  pub filled_within : (new : Memory) → length new ≡ length memory
      → ((place : ℕ) → awaits t.condition place ≡ false → byte_at new place ≡ byte_at memory place)
      → ((place : ℕ) → awaits t.condition place ≡ true → (byte_at new place ≡ byte_at memory place)
      ⊎ IsByte (byte_at new place))
      → ChangesWithin m h (scope_began m began) memory new
  filled_within new size others come = step_within new (record {
    size = size;
    others = λ place other. elim (cases_Bool (awaits t.condition place)) [
      | inl awaited ↦ let no' : false ≡ true = sym other ∙ (l.room place awaited).0 in absurd (cc)
      | inr free ↦ others place free
    ];
  }) (subst (λ (scope : Scope). KeepsMemory m h scope memory new) same_scope (l.fills memory new (record {
    size = size;
    others = λ place held free. others place free;
    come = λ place held awaited. come place awaited;
  })))

-- ---- what its opener goes on with

-- a word that a branch may write is one that its row names
written_is_among : (m : Contents) (context : ℕ) (par : Par) (b : Branch) (k : ℤ)
    → numbered_branch m context ≡ Some (par, b) → may_write_word m context k ≡ true → is_among b.writes k ≡ true
written_is_among m context par b k is t = sym (ap (λ (o : Option (Par × Branch)). elim o as (λ o. Bool) [
  | None ↦ true
  | Some found ↦ is_among found.1.writes k
]) is) ∙ (and_parts _ _ t).1

module _ {m : Contents} {own : Holding} {o : ℕ} {began : Began} {all : List Began} {old : Memory} {j : Join} {due : ℕ}
    {after : AfterPar m j due} (pending : Pending m own o began all old j due after) where
  abbrev opener_scope : Scope
  opener_scope = scope_of m after.par.context after.act.layout

  -- whatever keeps what the opener has, and the words that no branch has still
  pub pending_by : (new : Memory) → KeepsMemory m own opener_scope old new
      → ((k : ℤ) → (words_in m after.par.context).reads k ≡ true → (IsOut m o all after.par j k → ⊥)
      → frame_word new after.act.layout.origin k ≡ frame_word old after.act.layout.origin k)
      → Pending m own o began all new j due after
  pending_by new keeps same = record {
    frame = same_frame (sym keeps.size) pending.frame;
    named = keeps.named pending.named;
    behind = behind_keeps keeps pending.behind;
    words = λ k reads hides free. means_same (pending.words k reads hides free) refl (sym (same k reads free));
  }

  -- A change by a holding that may write nothing that the opener may read leaves it pending.
  pub pending_elsewhere : (g : Holding) (new : Memory) → ChangesOwn g old new
      → ((place : ℕ) → may_write g place ≡ true → may_read own place ≡ true → ⊥)
      → Pending m own o began all new j due after
  pending_elsewhere g new changes apart =
      pending_by new (agree_keeps own old new changes.size same m opener_scope) (λ k reads free. word k reads)
    where
      same : (place : ℕ) → may_read own place ≡ true → byte_at new place ≡ byte_at old place
      same place e = changes.others place (elim (cases_Bool (may_write g place))
          [ inl theirs ↦ absurd (apart place theirs e) | inr free ↦ free ])

      word : (k : ℤ) → (words_in m after.par.context).reads k ≡ true
          → frame_word new after.act.layout.origin k ≡ frame_word old after.act.layout.origin k
      word k reads =
          let w = pending.frame.readable k reads in
          let byte : (place n : ℕ) → n < 4 → place ≡ w.place + n → byte_at new place ≡ byte_at old place =
          λ place n less is. same place (ap (may_read own) is ∙ bytes_read own w.place w.readable n less) in
          frame_word_is new after.act.layout.origin k w.place w.is
          ∙ word_at_same new old w.place (byte w.place 0 (omega arith) (omega arith))
          (byte (w.place + 1) 1 (omega arith) refl) (byte (w.place + 2) 2 (omega arith) refl)
          (byte (w.place + 3) 3 (omega arith) refl)
          ∙ sym (ap (word_at_place old) (sym w.is))

  module _ {mine : Holding} {start : Began} (member : IsMember m after.par after.act.layout start)
      (named : HoldsNamed m mine (scope_began m start) old) where
    -- a branch is one rung below its opener
    pub rung : IsRung m old own mine opener_scope (scope_began m start)
    rung = record {
      depth = after.par.block;
      workspace = j.block;
      lent = member.lent;
      frame = pending.frame;
      opener_named = pending.named;
      branch_named = named;
    }

    -- What it changes is within what its opener has
    pub climbs : (new : Memory) → ChangesWithin m mine (scope_began m start) old new
        → ChangesWithin m own opener_scope old new
    climbs new changes = changes_climb m own mine opener_scope (scope_began m start) old new rung changes

    -- and leaves what its opener goes on with, while it is a member.
    pub member_leaves : (new : Memory) (p : ℕ) → p ≢ o → slice_get all p ≡ Some start → is_member j.members p ≡ true
        → ChangesWithin m mine (scope_began m start) old new → Pending m own o began all new j due after
    member_leaves new p other here is_in changes =
        pending_by new (climbs new changes).keeps (λ k reads free.
        other_words_stay m own mine opener_scope (scope_began m start) old new rung changes k reads (unwritten k free))
      where
        unwritten : (k : ℤ) → (IsOut m o all after.par j k → ⊥) → may_write_word m start.context k ≡ false
        unwritten k free = elim (cases_Bool (may_write_word m start.context k)) [
          | inl writes ↦ absurd (free (record {
            number = member.number;
            branch = member.branch;
            here = member.here;
            writes = written_is_among m start.context after.par member.branch k member.is writes;
            is_out = inr (record {
              process = p;
              other = other;
              start = start;
              has_start = here;
              member = is_in;
              is = member.is;
            });
          }))
          | inr not_so ↦ not_so
        ]

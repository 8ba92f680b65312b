-- What a process changes of its own leaves what the others meet, where they have enabled the same and nothing that is
-- ready for them is lost.
use Rattle.std.proofs.Common.{◌≡◌, ◌≢◌, ℕ, ◌+◌, ◌<◌, ℤ, true, false, inl, inr, length, Some}
use Rattle.std.proofs.Common.{refl, sym, ap, ◌∙◌, subst, arith}
use Rattle.std.specs.Prelude.{slice_get}
use Rattle.std.proofs.lemmas.Bool.{cases_Bool}
use Rattle.module_format.specs.Contents.{Contents}
use Rattle.machine_state.specs.declared.process.Condition.{Condition}
use Rattle.machine_state.specs.declared.process.Task.{Task}
use Rattle.machine_state.specs.EnabledLaws.{Alternates, HasReady}
use Rattle.machine_state.specs.Frame.{ChangesOwn}
use Rattle.machine_state.specs.Holding.{Holding, may_read, may_write, nothing, IsApart}
use Rattle.machine_state.specs.Memory.{Memory, byte_at}
use Rattle.machine_state.specs.World.{World, Role, held}
use Rattle.machine_state.proofs.Claims.{is_apart, nothing_claimed}
use Rattle.machine_state.proofs.Frame.{changes_nothing}
use Rattle.machine_state.proofs.Reading.{word_at_same}
use Rattle.states.specs.declared.known.Guard.{Guard}
use Rattle.states.specs.declared.known.GuardName.{GuardName}
use Rattle.states.specs.declared.known.GuardName.TheVariants.{Constant, Word}
use Rattle.rulings.specs.Buffers.{message_place, IsByte}
use Rattle.rulings.specs.Fitting.{After}
use Rattle.rulings.specs.Guarding.{guard_value}
use Rattle.rulings.specs.Meaning.{HasFrame, IsReadableWord, frame_word, words_in, word_at_place}
use Rattle.rulings.specs.Regions.{Scope, scope_in, KeepsMemory}
use Rattle.rulings.proofs.Agreeing.{agree_keeps}
use Rattle.rulings.proofs.Regions.{bytes_read}
use Rattle.rulings.proofs.Within.{scope_still}
use Rattle.rulings.proofs.Words.{frame_word_is}
use Rattle.certified_worlds.specs.Alternating.{AlternatesHere}
use Rattle.certified_worlds.specs.Invariant.{Holds}
use Rattle.certified_worlds.specs.Lives.{awaits, Lives, Meets, it_lives, it_stopped, it_ended}
use Rattle.certified_worlds.specs.Point.{Began}
use Rattle.certified_worlds.proofs.BehindKeeps.{behind_in_keeps}
use Rattle.certified_worlds.proofs.Carrying.{SameEnabled, alternates_on}
use Rattle.certified_worlds.proofs.OrderlyWorlds.{MeetsStill, OthersMeet}
use Rattle.certified_worlds.proofs.StartedWorlds.{starts_beside}
use Rattle.certified_worlds.proofs.Steps.{still_state}

-- a process that alternates awaits no bytes
alternates_quietly : (u : Task) → Alternates u.mode u.condition → (place : ℕ) → awaits u.condition place ≡ false
alternates_quietly u (inl enables) place = ap (λ (c : Condition). awaits c place) enables.1
alternates_quietly u (inr disables) place = elim disables.1 [
  | inl ready ↦ ap (λ (c : Condition). awaits c place) ready
  | inr waits ↦ ap (λ (c : Condition). awaits c place) waits
]

-- what holds nothing is apart from all
pub nothing_meets : (h : Holding) → IsApart nothing h
nothing_meets h = is_apart nothing h (λ c claimed other. nothing_claimed c claimed)

module _ (m : Contents) (w after : World) (g : Holding) (changes : ChangesOwn g w.memory after.memory) where
  -- ---- one that holds nothing of what has changed

  module _ {h : Holding} (apart : IsApart g h) where
    same : (place : ℕ) → may_read h place ≡ true → byte_at after.memory place ≡ byte_at w.memory place
    same place e = changes.others place (elim (cases_Bool (may_write g place))
        [ inl mine ↦ absurd (apart.written place mine e) | inr free ↦ free ])

    -- a word that it may read has its value
    word_stays : (origin k : ℤ) → IsReadableWord h (length w.memory) origin k
        → frame_word after.memory origin k ≡ frame_word w.memory origin k
    word_stays origin k word =
        let byte : (place n : ℕ) → n < 4 → place ≡ word.place + n
        → byte_at after.memory place ≡ byte_at w.memory place =
        λ place n less is. same place (ap (may_read h) is ∙ bytes_read h word.place word.readable n less) in
        frame_word_is after.memory origin k word.place word.is
        ∙ word_at_same after.memory w.memory word.place (byte word.place 0 (omega arith) (omega arith))
        (byte (word.place + 1) 1 (omega arith) refl) (byte (word.place + 2) 2 (omega arith) refl)
        (byte (word.place + 3) 3 (omega arith) refl)
        ∙ sym (ap (word_at_place w.memory) (sym word.is))

    module _ {start : Began} {u : Task} {due : ℕ} where
      kept : (l : Lives m h start w.memory u due)
          → KeepsMemory m h (scope_in m l.point.state l.point.act.layout) w.memory after.memory
      kept l = agree_keeps h w.memory after.memory changes.size same m (scope_in m l.point.state l.point.act.layout)

      -- it lives on where it was
      abbrev lives_apart : Lives m h start w.memory u due → Lives m h start after.memory u due
      lives_apart l = record {
        point = l.point;
        claim = λ later size agree bytes. l.claim later (size ∙ changes.size)
            (λ place e free. agree place e free ∙ same place e) bytes;
        room = λ place e. let r = l.room place e in let size = changes.size in (r.0, omega (arith, r.1, size));
        sends = λ e is k less. let sent = l.sends e is k less in
            (sent.0, subst IsByte (sym (same (message_place e k) sent.0)) sent.1);
        fills = l.fills;
        named = (kept l).named l.named;
        behind = behind_in_keeps start l.point.state.mode l.point.state.context l.point.act.layout l.point.callers
            (kept l) l.behind;
        known_length = l.known_length;
        paid = l.paid;
      }

      -- ---- its guards

      module _ (l : Lives m h start w.memory u due) (alternates : Alternates u.mode u.condition) where
        known : After m h u.mode l.point.act l.point.state (record { registers = u.registers; memory = w.memory })
        known = (l.claim w.memory refl (λ place mine free. refl) (λ place awaited.
            let no' : false ≡ true = sym (alternates_quietly u alternates place) ∙ awaited in
            absurd (cc))).here

        frame_now : HasFrame h (length w.memory) (words_in m l.point.state.context) l.point.act.layout.origin
            l.point.state.depth u.registers.workspace
        frame_now = subst (λ (scope : Scope). HasFrame h (length w.memory) scope.words l.point.act.layout.origin
            l.point.state.depth u.registers.workspace)
            (scope_still m l.point.state.context l.point.state.mode l.point.act.layout
            (still_state known.same_mode (λ starting. starts_beside starting alternates))) known.frame

        module _ (q : ℕ) (old : AlternatesHere m w q u l.point.state l.point.act) where
          value_stays : (n : ℕ) (guard : Guard) → slice_get l.point.state.guards n ≡ Some guard → (name : GuardName)
              → guard.name ≡ name
              → guard_value after.memory l.point.act name ≡ guard_value w.memory l.point.act name
          value_stays n guard at (Constant value) is = refl
          value_stays n guard at (Word word) is =
              word_stays l.point.act.layout.origin word (frame_now.readable word (old.fit.read n guard word at is))

          guards_stay : SameEnabled w after q
              → (HasReady w.tasks w.channels w.links.inputs q
              → HasReady after.tasks after.channels after.links.inputs q)
              → AlternatesHere m after q u l.point.state l.point.act
          guards_stay enabled ready = alternates_on m w after q u u l.point.state l.point.state l.point.act old enabled
              (λ n guard at. value_stays n guard at guard.name refl) (record { guards = refl; left = refl }) old.fit
              (λ distance is. is)
              (λ must. elim (old.ready must) [ inl found ↦ inl (ready found) | inr skip ↦ inr skip ])

      meets_apart : (q : ℕ) (old : Meets m h start w.memory u due)
          → (Alternates u.mode u.condition → SameEnabled w after q)
          → (Alternates u.mode u.condition → HasReady w.tasks w.channels w.links.inputs q
          → HasReady after.tasks after.channels after.links.inputs q)
          → MeetsStill m w after q old
      meets_apart q (it_lives l) enabled ready = record {
        meets = it_lives (lives_apart l);
        guards = λ alternates guards. guards_stay l alternates q guards (enabled alternates) (ready alternates);
        starts = λ par j act starts. starts;
      }
      meets_apart q (it_stopped e) enabled ready = record {
        meets = it_stopped e;
        guards = λ alternates guards. guards;
        starts = λ par j act starts. starts;
      }
      meets_apart q (it_ended e) enabled ready = record {
        meets = it_ended e;
        guards = λ alternates guards. guards;
        starts = λ par j act starts. starts;
      }

  -- ---- all of them

  pub others_meet : (h : Holds m w) (p : ℕ)
      → ((q : ℕ) (role : Role) → p ≢ q → slice_get w.roles q ≡ Some role → IsApart g (held role))
      → ((q : ℕ) (u : Task) → p ≢ q → slice_get w.tasks q ≡ Some u → Alternates u.mode u.condition
      → SameEnabled w after q)
      → ((q : ℕ) (u : Task) → p ≢ q → slice_get w.tasks q ≡ Some u → Alternates u.mode u.condition
      → HasReady w.tasks w.channels w.links.inputs q → HasReady after.tasks after.channels after.links.inputs q)
      → OthersMeet m w h p after
  others_meet h p apart enabled ready q u at differ =
      let old = h.table.each q u at in
      meets_apart (apart q old.role differ old.has_role) q old.meets (enabled q u differ at) (ready q u differ at)

-- So it is of any process where no byte has changed.
pub meets_unchanged : (m : Contents) (w after : World) → after.memory ≡ w.memory → (q : ℕ) {h : Holding} {start : Began}
    {u : Task} {due : ℕ} (old : Meets m h start w.memory u due) → SameEnabled w after q
    → (HasReady w.tasks w.channels w.links.inputs q → HasReady after.tasks after.channels after.links.inputs q)
    → MeetsStill m w after q old
meets_unchanged m w after same q {h = h} old enabled ready =
    meets_apart m w after nothing
    (subst (λ (memory : Memory). ChangesOwn nothing w.memory memory) (sym same) (changes_nothing nothing w.memory))
    (nothing_meets h) q old (λ alternates. enabled) (λ alternates. ready)

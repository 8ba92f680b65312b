-- What is known depends on readable bytes alone: it holds in every memory that has the same of them.
use Rattle.std.proofs.Common.{◌≡◌, ℕ, ◌+◌, ◌<◌, ℤ, Bool, true, inl, inr, length, Option, refl, sym, ap, ◌∙◌, arith}
use Rattle.module_format.specs.declared.stack.Stack.{Stack}
use Rattle.module_format.specs.Contents.{Contents}
use Rattle.machine_state.specs.declared.process.Mode as machine
use Rattle.machine_state.specs.Memory.{Memory, byte_at}
use Rattle.machine_state.specs.Holding.{Holding, may_read}
use Rattle.machine_state.specs.Site.{Local}
use Rattle.machine_state.proofs.Reading.{word_at_same}
use Rattle.states.specs.declared.known.Known.{Known}
use Rattle.states.specs.declared.known.Source.{Source}
use Rattle.states.specs.declared.known.Source.TheVariants.{Nowhere, From, Test}
use Rattle.states.specs.State.{State, Facts}
use Rattle.rulings.specs.Meaning.{Activation, word_at_place, frame_word, ComesFrom, from_nowhere, from_word, from_test}
use Rattle.rulings.specs.Meaning.{MeansKnown, Knows}
use Rattle.rulings.specs.Fitting.{Described}
use Rattle.rulings.specs.Regions.{Scope, KeepsMemory}
use Rattle.rulings.proofs.Words.{means_same, frame_word_is}
use Rattle.rulings.proofs.Regions.{named_left, bytes_read}
use Rattle.rulings.proofs.Combining.{same_frame}

-- what is known of words and registers, in a memory that has the same words
pub knows_agree : {m : Contents} {counts : ℤ → Bool} {act : Activation} {said : Stack Known} {facts : Facts}
    {stack : Stack (Option ℤ)} {memory later : Memory}
    → ((k : ℤ) → counts k ≡ true → frame_word memory act.layout.origin k ≡ frame_word later act.layout.origin k)
    → Knows m counts act said facts stack memory → Knows m counts act said facts stack later
knows_agree {m} {counts} {act} {said} {facts} {stack} {memory} {later} same known = record {
  registers = record {
    a = register said.a stack.a known.registers.a;
    b = register said.b stack.b known.registers.b;
    c = register said.c stack.c known.registers.c;
  };
  words = λ k inside. means_same (known.words k inside) refl (same k inside);
}
  where
    comes : (source : Source) (v : Option ℤ) → ComesFrom counts memory act.layout.origin source v
        → ComesFrom counts later act.layout.origin source v
    comes Nowhere v from_nowhere = from_nowhere
    comes (From word) v (from_word inside is) = from_word inside (is ∙ same word inside)
    comes (Test word lo hi within) v (from_test x inside is tested) =
        from_test x inside (sym (same word inside) ∙ is) tested

    register : (known : Known) (v : Option ℤ) → MeansKnown m counts act.layout memory known v
        → MeansKnown m counts act.layout later known v
    register known v means = record { fact = means.fact; source = comes known.source v means.source }

module _ (h : Holding) (memory later : Memory) (size : length later ≡ length memory)
    (agree : (place : ℕ) → may_read h place ≡ true → byte_at later place ≡ byte_at memory place) where
  pub agree_keeps : (m : Contents) (scope : Scope) → KeepsMemory m h scope memory later
  agree_keeps m scope = record {
    size = size;
    bytes = λ place e. inl (agree place e);
    named = named_left m h scope memory later (λ place. ⊥) (record {
      bytes = λ place e. inl (agree place e);
      own = λ place no'. absurd no';
      small = λ place b e found. inr (sym (agree place e) ∙ found);
    }) (λ j p found. inl (λ place at no'. no'));
  }

-- all that is so of an activation is so whatever happens to bytes that the process may not read
pub after_agrees : {m : Contents} {h : Holding} {mode : machine.Mode} {act : Activation} {s : State} {l : Local}
    {scope : Scope} (later : Memory) → length later ≡ length l.memory
    → ((place : ℕ) → may_read h place ≡ true → byte_at later place ≡ byte_at l.memory place)
    → Described m h mode act s l scope → Described m h mode act s (record l { memory = later }) scope
after_agrees {m} {h} {mode} {act} {s} {l} {scope} later size agree a = record {
  frame = same_frame (sym size) a.frame;
  knows = knows_agree same a.knows;
  named = (agree_keeps h l.memory later size agree m scope).named a.named;
  same_mode = a.same_mode;
}
  where
    same : (k : ℤ) → scope.words.reads k ≡ true
        → frame_word l.memory act.layout.origin k ≡ frame_word later act.layout.origin k
    same k inside =
        let w = a.frame.readable k inside in
        let byte : (place n : ℕ) → n < 4 → place ≡ w.place + n → byte_at l.memory place ≡ byte_at later place =
        λ place n less is. sym (agree place (ap (may_read h) is ∙ bytes_read h w.place w.readable n less)) in
        frame_word_is l.memory act.layout.origin k w.place w.is
        ∙ word_at_same l.memory later w.place (byte w.place 0 (omega arith) (omega arith))
        (byte (w.place + 1) 1 (omega arith) refl) (byte (w.place + 2) 2 (omega arith) refl)
        (byte (w.place + 3) 3 (omega arith) refl)
        ∙ sym (ap (word_at_place later) (sym w.is))

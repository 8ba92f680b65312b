-- What is known at the ends of choices lies within what is known after all of them.
use Rattle.std.proofs.Common.{◌≡◌, ℕ, ◌≤◌, List, ◌∷◌, length, Some, refl, sym, ap, subst, ◌∙◌, arith}
use Rattle.occam_layout.specs.declared.mark.Mark.TheVariants as mark
use Rattle.occam_parser.specs.Terminals.{Mark}
use Rattle.occam_parser.specs.Blocks.{Chosen, Component, Components, Guarded, Part, Plain}
use Rattle.scalar_ranges.specs.Entries.{Entry}
use Rattle.scalar_ranges.specs.MoveLaws.{shape}
use Rattle.scalar_ranges.specs.Moves.{Known, begin, end, next, outermost}
use Rattle.program_uses.specs.Actions.{Around}
use Rattle.program_uses.specs.Declaring.{add}
use Rattle.program_uses.specs.Indices.{Repeats, index_in, turn_by_turn}
use Rattle.program_meaning.specs.Sequential.{AreSequential, IsSequentialComponent}
use Rattle.usage_checks.specs.AfterProcesses.{after_component, after_components, chosen, inside}
use Rattle.usage_checks.specs.NameRules.{with_entries}
use Rattle.usage_checks.specs.Outlines.{IsMadeOf}
use Rattle.usage_checks.specs.Reaching.{process_of, entered}
use Rattle.usage_checks.proofs.RangesStay.{all_but_one, all_outermost}
use Rattle.certified_scopes.specs.Processes.{BeginsFurther, ChoicesBeginFurther, ChoicesLieWithin, LieWithinEnds}
use Rattle.certified_scopes.specs.Processes.{ends_so_far}
use Rattle.scalar_ranges.specs.Narrowing.{narrow}
use Rattle.certified_scopes.proofs.Excluded.{excluded_is_narrowed}
use Rattle.std.proofs.Common.{false}
use Rattle.certified_scopes.specs.Within.{indices_of, LieWithin}
use Rattle.certified_scopes.proofs.Indices.{index_lengths}
use Rattle.certified_scopes.proofs.ProcessesKeep.{InChoices, KeepsIn, a_turn, all_keep, choices_keep, ends_lie, next_is}
use Rattle.certified_scopes.proofs.ProcessesKeep.{one_keeps, turns_keep}

-- What holds between two choices of a block, where there may be a name more.
record IsBetween (k x : Known) (es : List Entry) : Type 0 where
  choices : InChoices (indices_of k.entries) (shape k.entries) k.blocks x
  long : length choices.start ≡ length k.entries
  inner : length k.entries ≤ length es
  same : outermost (length choices.start) es ≡ choices.start

-- it holds whatever is added to the names, if the outermost ones are those before it
between : (k x : Known) (more : List Entry → List Entry) → ((es : List Entry) → length es ≤ length (more es))
    → ((es : List Entry) → outermost (length es) (more es) ≡ es)
    → InChoices (indices_of k.entries) (shape k.entries) k.blocks x → IsBetween k x (more x.entries)
between k x more up outer h =
    let same = ap (λ (y : Known). y.entries) h.at in
    let long = ap (λ (y : Known). length y.entries) h.at in
    let as_long = index_lengths h.start k.entries h.starts in
    let further = up x.entries in
    record {
      choices = h;
      long = as_long;
      inner = omega (arith, long, as_long, further);
      same = ap (λ (es : List Entry). outermost (length h.start) (more es)) same ∙ outer h.start;
    }

module _ (a : Around) where
  -- a choice at a place between two of them
  choice_lies : {part : Part} (c : Component part) (k x : Known) (es : List Entry) → IsMadeOf (Mark mark.If) part
      → KeepsIn a c → IsBetween k x es
      → LieWithinEnds x (after_component a (Mark mark.If) c (record { entries = es; blocks = x.blocks }))
      (outermost (length k.entries)
      (inside a (process_of c) (entered c (record { entries = es; blocks = x.blocks }))).entries)
  choice_lies (Plain p) k x es made keeps here = absurd made
  choice_lies (Guarded line g p) k x es made keeps here = absurd made
  choice_lies (Chosen line e p) k x es made keeps here =
      let h = here.choices in
      let long = here.long in
      let inner = here.inner in
      let low : length h.start ≤ length es = omega (arith, long, inner) in
      let lie = ends_lie a e p es h.start h.ends k.blocks keeps low here.same (indices_of k.entries) h.starts h.ended
      h.fit in
      let to = next_is a e p es h.start h.ends k.blocks keeps low here.same in
      subst (λ (y : Known). LieWithinEnds y (next (inside a p (chosen e (record { entries = es; blocks = y.blocks }))))
      (outermost (length k.entries) (inside a p (chosen e (record { entries = es; blocks = y.blocks }))).entries))
      (sym h.at)
      (record {
        choice = subst (λ (i : ℕ). LieWithin (outermost i (inside a p
            (chosen e (record { entries = es; blocks = record { start = h.start; ends = h.ends } ∷ k.blocks }))).entries)
            (end (next (inside a p
            (chosen e (record { entries = es; blocks = record { start = h.start; ends = h.ends } ∷ k.blocks }))))).entries)
            long lie.0;
        earlier = lie.1;
        ended = subst (λ (y : Known). ends_so_far y.blocks ≡ Some (end y).entries) (sym to) refl;
      })

  -- and what is known after it, where it was not taken
  choice_begins : {part : Part} (c : Component part) (k x : Known) (es : List Entry) → IsMadeOf (Mark mark.If) part
      → KeepsIn a c → IsBetween k x es
      → BeginsFurther c es (length k.entries)
      (after_component a (Mark mark.If) c (record { entries = es; blocks = x.blocks })).entries
  choice_begins (Plain p) k x es made keeps here = tt
  choice_begins (Guarded line g p) k x es made keeps here = tt
  choice_begins (Chosen line e p) k x es made keeps here =
      let h = here.choices in
      let long = here.long in
      let inner = here.inner in
      let low : length h.start ≤ length es = omega (arith, long, inner) in
      let to = next_is a e p es h.start h.ends k.blocks keeps low here.same in
      subst (λ (y : Known). (next (inside a p (chosen e (record { entries = es; blocks = y.blocks })))).entries
      ≡ outermost (length k.entries) (narrow es e false)) (sym h.at)
      (ap (λ (y : Known). y.entries) to ∙ sym (excluded_is_narrowed es h.start e here.same)
      ∙ ap (λ (i : ℕ). outermost i (narrow es e false)) long)

  module _ {part : Part} (c : Component part) (k : Known) (made : IsMadeOf (Mark mark.If) part)
      (seq : IsSequentialComponent (Mark mark.If) c) where
    keeps_here : KeepsIn a c
    keeps_here = one_keeps a (Mark mark.If) c seq

    -- a choice that is in sequence, at such a place
    lies_at : {x : Known} {es : List Entry} → IsBetween k x es
        → LieWithinEnds x (after_component a (Mark mark.If) c (record { entries = es; blocks = x.blocks }))
        (outermost (length k.entries)
        (inside a (process_of c) (entered c (record { entries = es; blocks = x.blocks }))).entries)
    lies_at {x} {es} here = choice_lies c k x es made keeps_here here

    begins_at : {x : Known} {es : List Entry} → IsBetween k x es
        → BeginsFurther c es (length k.entries)
        (after_component a (Mark mark.If) c (record { entries = es; blocks = x.blocks })).entries
    begins_at {x} {es} here = choice_begins c k x es made keeps_here here

    module _ (cs : Components part) (all : AreSequential (Mark mark.If) cs) where
      abbrev before_choice : Known
      before_choice = after_components a (Mark mark.If) cs (begin k)

      choice_between : IsBetween k before_choice before_choice.entries
      choice_between =
          between k before_choice (λ es. es) (λ es. omega arith) (λ es. all_outermost (length es) es refl)
          (choices_keep a cs k made (all_keep a (Mark mark.If) cs all))

    module _ (name : List ℕ) (repeats : Repeats) (n : ℕ) where
      abbrev before_turn : Known
      before_turn = turn_by_turn (a_turn a (Mark mark.If) name c repeats) n (begin k)

      abbrev in_turn : Known
      in_turn = with_entries (add name (index_in repeats n)) before_turn

      turn_between : IsBetween k before_turn in_turn.entries
      turn_between =
          let e : Entry = record { name = name; meaning = index_in repeats n } in
          between k before_turn (λ es. e ∷ es) (λ es. omega arith) (λ es. all_but_one (length es) e es refl)
          (turns_keep a c name repeats k n made keeps_here)

pub choices_lie_within : ChoicesLieWithin
choices_lie_within = record {
  choices = λ {part} a cs c k made seq. lies_at a c k made seq.1 (choice_between a c k made seq.1 cs seq.0);
  turns = λ {part} a c name repeats k n made seq. lies_at a c k made seq (turn_between a c k made seq name repeats n);
}

pub choices_begin_further : ChoicesBeginFurther
choices_begin_further = record {
  choices = λ {part} a cs c k made seq. begins_at a c k made seq.1 (choice_between a c k made seq.1 cs seq.0);
  turns = λ {part} a c name repeats k n made seq. begins_at a c k made seq (turn_between a c k made seq name repeats n);
}

-- What is written where a walk is.
use Rattle.std.proofs.Common.{◌≡◌, ◌∙◌, ℕ, ◌+◌, ◌-◌, ◌<◌, ◌≤◌, ◌++◌, length, Option, Some, None, Ok, sym, ap, refl}
use Rattle.std.proofs.Common.{subst, Result, Err, IfOk, arith}
use Rattle.prefix_decoder.specs.Fetching.{fetched}
use Rattle.module_format.specs.Contents.{Contents}
use Rattle.states.specs.declared.rule.Rule.{Rule}
use Rattle.states.specs.declared.rule.Rule.TheVariants as rules
use Rattle.states.specs.State.{State}
use Rattle.certified_worlds.specs.Certified.{state_at}
use Rattle.verifier.specs.declared.stop.Breach.{Breach}
use Rattle.verifier.specs.declared.walk.Walk.{Walk}
use Rattle.verifier.specs.declared.walk.Arrival.{Arrival}
use Rattle.verifier.specs.Judge.{Verdict, verdict, refused, at_the_end}
use Rattle.verifier.specs.Walking.{OnTheWay, walked, before_of, Arrives, IsUnspelled, HasGoneOn, Breaks, by_rule}
use Rattle.verifier.specs.Walking.{by_start}
use Rattle.verifier.proofs.Walks.{HasEntered, breaks_there, start_is_beyond, way_breaks, way_misspelled, way_ended}
use Rattle.fact_texts.specs.Texts.{Text}
use Rattle.state_texts.specs.declared.settings.Setting.{Setting}
use Rattle.explanation_parts.specs.Refusals.{hidden_text, unspelled_text, ended_text}
use Rattle.explanation_parts.specs.Sights.{sight_text, setting_after}
use Rattle.explanations.specs.declared.explaining.Told.{Told}
use Rattle.explanations.specs.declared.explaining.Told.TheVariants.{All, Part}
use Rattle.explanations.specs.Explaining.{explanation, last_text, Explains, IsElsewhere}
use Rattle.explanations.specs.Telling.{IsKnown, verdict_told, IsTold, TellsBreach}
use Rattle.explanations.proofs.Explains.{ends_unspelled, ends_there, ends_broken, ends_hidden, goes_on}

-- what follows of what is returned, where there is no error
pub if_ok : {T E : Type 0} {P Q : T → Type 0} (result : Result T E) → IfOk result P → ((value : T) → P value → Q value)
    → IfOk result Q
if_ok (Ok value) holds follows = follows value holds
if_ok (Err error) holds follows = tt

-- no instruction is spelled there
unspelled_here : (m : Contents) (w : Walk) (written text : Text) (at : ℕ) (setting : Setting) → walked w ≡ m
    → Explains m written w.at (before_of w) setting → IsUnspelled w → at ≡ w.at
    → text ≡ written ++ unspelled_text m at → text ≡ explanation m
unspelled_here m w written text at setting same e u there is =
    ends_unspelled m written text w.at (before_of w) setting u.fault e
    (subst (λ (c : Contents). w.at < length c.code) same u.inside)
    (ap (λ (c : Contents). fetched c.code w.at) (sym same) ∙ u.unspelled)
    (is ∙ ap (λ (o : ℕ). written ++ unspelled_text m o) there)

-- the code ends there
ended_here : (m : Contents) (old new : Walk) (written text : Text) (at : ℕ) (sighted : Option State)
    (setting : Setting) → walked old ≡ m → Explains m written old.at (before_of old) setting
    → (length (walked old).code ≤ old.at) × (new ≡ old) → at ≡ old.at → sighted ≡ before_of new
    → text ≡ written ++ ended_text m at sighted → text ≡ explanation m
ended_here m old new written text at sighted setting same e ended there seen is =
    ends_there m written text old.at (before_of old) setting e
    (subst (λ (c : Contents). length c.code ≤ old.at) same ended.0)
    (is ∙ ap (λ (o : ℕ). written ++ ended_text m o sighted) there
    ∙ ap (λ (s : Option State). written ++ ended_text m old.at s) (seen ∙ ap before_of ended.1))

-- the module is refused there
last_here : (m : Contents) (old arrived : Walk) (a : Arrival) (written text : Text) (setting : Setting) (rule : Rule)
    → walked old ≡ m → OnTheWay m old.at (before_of old) → Explains m written old.at (before_of old) setting
    → Arrives old a arrived → verdict m ≡ refused rule old.at
    → text ≡ written ++ last_text m a.at a.instr (before_of arrived) setting rule → text ≡ explanation m
last_here m old arrived a written text setting rule same way e arr refusal is =
    let whole : walked arrived ≡ m = arr.same ∙ same in
    let low : old.at < length m.code =
    subst (λ (o : ℕ). o < length m.code) arr.at
    (subst (λ (c : Contents). a.at < length c.code) whole arr.arrived.inside) in
    let spelled : fetched m.code old.at ≡ Ok a.instr =
    ap (λ (o : ℕ). fetched m.code o) (sym arr.at) ∙ ap (λ (c : Contents). fetched c.code a.at) (sym whole)
    ∙ arr.arrived.spelled in
    ends_broken m written old.at (before_of old) setting a.instr e low spelled rule text
    (breaks_there m old.at (before_of old) a.instr rule arr.arrived.some low way spelled refusal)
    (is ∙ ap (λ (o : ℕ). written ++ last_text m o a.instr (before_of arrived) setting rule) arr.at
    ∙ ap (λ (s : Option State). written ++ last_text m old.at a.instr s setting rule) arr.state)

-- the sight of the instruction, as it is written
sight_here : (m : Contents) (at place : ℕ) (before sighted reached : Option State) (written seen : Text)
    (setting : Setting) → place ≡ at → sighted ≡ reached → reached ≡ state_at m at before
    → seen ≡ written ++ sight_text m place setting sighted
    → seen ≡ written ++ sight_text m at setting (state_at m at before)
sight_here m at place before sighted reached written seen setting there same state is =
    is ∙ ap (λ (o : ℕ). written ++ sight_text m o setting sighted) there
    ∙ ap (λ (s : Option State). written ++ sight_text m at setting s) (same ∙ state)

-- ---- what is told where the walk ends

-- no instruction is spelled there
pub told_unspelled : (m : Contents) (old new : Walk) (written text : Text) (at : ℕ) (setting : Setting)
    (known : Option Breach) (told : Told) → walked old ≡ m → OnTheWay m old.at (before_of old)
    → Explains m written old.at (before_of old) setting → IsUnspelled old × (new ≡ old) → at ≡ old.at
    → (text ≡ written ++ unspelled_text m at) × (told ≡ All (refused rules.Spelling at))
    → IsTold m known text told
told_unspelled m old new written text at setting known told same way e there place is =
    subst (λ (t : Told). IsTold m known text t) (sym is.1) (
      sym (way_misspelled m old new at (record { rule = rules.Spelling; offset = at }) same way there
          (place ∙ ap (λ (w : Walk). w.at) (sym there.1)) refl),
      unspelled_here m old written text at setting same e there.0 place is.0,
    )

-- the code ends there
pub told_ended : (m : Contents) (old new : Walk) (written text : Text) (at : ℕ) (setting : Setting)
    (known : Option Breach) (told : Told) → walked old ≡ m → OnTheWay m old.at (before_of old)
    → Explains m written old.at (before_of old) setting
    → (length (walked old).code ≤ old.at) × (new ≡ old) → at ≡ old.at
    → (text ≡ written ++ ended_text m at (before_of new))
    × (told ≡ All (at_the_end new.at (before_of new)))
    → IsTold m known text told
told_ended m old new written text at setting known told same way e ended place is =
    subst (λ (t : Told). IsTold m known text t) (sym is.1) (
      sym (way_ended m old new same way ended),
      ended_here m old new written text at (before_of new) setting same e ended place refl is.0,
    )

-- what is known of the verdict is so
known_so : (m : Contents) (known : Option Breach) (breach : Breach) → IsKnown m known → known ≡ Some breach
    → verdict m ≡ Err breach
known_so m known breach so is = subst (λ (k : Option Breach). IsKnown m k) is so

-- it is known that the module is refused there
pub told_last : (m : Contents) (old arrived : Walk) (a : Arrival) (written text : Text) (setting : Setting)
    (known : Option Breach) (rule : Rule) (at : ℕ) (told : Told) → walked old ≡ m → OnTheWay m old.at (before_of old)
    → Explains m written old.at (before_of old) setting → Arrives old a arrived → IsKnown m known
    → known ≡ Some (record { rule = rule; offset = at }) → at ≡ old.at
    → (text ≡ written ++ last_text m a.at a.instr (before_of arrived) setting rule)
    × (told ≡ All (refused rule a.at)) → IsTold m known text told
told_last m old arrived a written text setting known rule at told same way e arr so broken place is =
    let refusal : verdict m ≡ refused rule old.at =
    known_so m known (record { rule = rule; offset = at }) so broken ∙ ap (λ (o : ℕ). refused rule o) place in
    subst (λ (t : Told). IsTold m known text t) (sym is.1) (
      ap (λ (o : ℕ). refused rule o) arr.at ∙ sym refusal,
      last_here m old arrived a written text setting rule same way e arr refusal is.0,
    )

-- where the rule is broken by the instruction, nothing was known of that
unknown_here : (m : Contents) (known : Option Breach) (rule : Rule) (at : ℕ) → IsKnown m known
    → IsElsewhere known at → verdict m ≡ refused rule at → known ≡ None
unknown_here m None rule at so elsewhere told = refl
unknown_here m (Some breach) rule at so elsewhere told =
    let same : ◌≡◌ {A = Verdict} (Err breach) (refused rule at) = sym so ∙ told in
    let is : breach ≡ record { rule = rule; offset = at } = cc in
    absurd (elsewhere rule (ap (λ (x : Breach). Some x) is))

pub told_breach : (m : Contents) (old entered : Walk) (a : Arrival) (breach : Breach) (written seen text : Text)
    (setting : Setting) (known : Option Breach) (at : ℕ) (sighted : Option State) (told : Told)
    → OnTheWay m old.at (before_of old) → Explains m written old.at (before_of old) setting
    → HasEntered m old.at (before_of old) a entered → IsKnown m known → IsElsewhere known at → at ≡ old.at
    → sighted ≡ before_of entered → seen ≡ written ++ sight_text m at setting sighted → Breaks entered a breach
    → TellsBreach seen text at breach told → IsTold m known text told
told_breach m old entered a breach written seen text setting known at sighted told way e has so elsewhere there same
    sight (by_rule {rule = rule} broken) tells =
    let refusal : verdict m ≡ refused rule a.at =
    way_breaks m old.at (before_of old) entered a (record { rule = rule; offset = a.at }) way has (by_rule broken) in
    subst (λ (t : Told). IsTold m known text t) (sym (tells.here (has.there ∙ sym there))) (
      sym refusal,
      unknown_here m known rule at so elsewhere (refusal ∙ ap (λ (o : ℕ). refused rule o) (has.there ∙ sym there)),
    )
told_breach m old entered a breach written seen text setting known at sighted told way e has so elsewhere there same
    sight (by_start {inside = inside} {after = after} ok start) tells =
    let starts = sym has.start ∙ start in
    let low = start_is_beyond m (old.at + 1) (a.instr.len - 1) inside starts in
    let is = tells.beyond (λ clash. absurd (omega (arith, low, clash, there))) in
    subst (λ (t : Told). IsTold m known text t) (sym is.1) (
      sym (way_breaks m old.at (before_of old) entered a
          (record { rule = rules.InstructionStart; offset = inside }) way has (by_start ok start)),
      ends_hidden m written old.at (before_of old) setting a.instr e has.inside has.spelled after
          (sym has.judged ∙ ok) seen
          (sight_here m old.at at (before_of old) sighted (before_of entered) written seen setting there same has.reached
          sight) inside text starts (is.0 ∙ ap (λ (o : ℕ). seen ++ hidden_text o inside) there),
    )

-- a walk that knew of the refusal told all
pub told_known : (m : Contents) (breach : Breach) (written : Text) (told : Told)
    → IsTold m (Some breach) written told → (written ≡ explanation m) × (verdict_told told ≡ verdict m)
told_known m breach written (All judged) is = (is.1, is.0)
told_known m breach written (Part other) is = absurd (let clash = is.1 in cc)

-- the walk goes on
pub goes_on_here : (m : Contents) (old entered new : Walk) (a : Arrival) (written seen : Text)
    (setting after : Setting) (at : ℕ) (sighted again : Option State)
    → Explains m written old.at (before_of old) setting → HasEntered m old.at (before_of old) a entered
    → HasGoneOn entered a new → at ≡ old.at → sighted ≡ before_of entered → again ≡ before_of entered
    → seen ≡ written ++ sight_text m at setting sighted → after ≡ setting_after setting again
    → Explains m seen new.at (before_of new) after
goes_on_here m old entered new a written seen setting after at sighted again e has gone there same twice sight later =
    let next : after ≡ setting_after setting (state_at m old.at (before_of old)) =
    later ∙ ap (setting_after setting) (twice ∙ has.reached) in
    let place : new.at ≡ old.at + a.instr.len = gone.at ∙ ap (λ (o : ℕ). o + a.instr.len) has.there in
    subst (λ (s : Setting). Explains m seen new.at (before_of new) s) (sym next)
    (subst (λ (o : ℕ). Explains m seen o (before_of new) (setting_after setting (state_at m old.at (before_of old))))
    (sym place)
    (goes_on m written old.at (before_of old) setting a.instr e has.inside has.spelled (before_of new)
    (sym has.judged ∙ gone.judged) seen
    (sight_here m old.at at (before_of old) sighted (before_of entered) written seen setting there same has.reached
    sight) has.some (sym has.start ∙ gone.none)))

-- In an alternation, and among the starts of a PAR, an instruction that is not allowed there breaks a rule.
use Rattle.std.proofs.Common.{◌≡◌, ℤ, pos, negsuc, Bool, true, false, cond, Result, Ok, Err, refl, sym, ap, ◌∙◌}
use Rattle.std.proofs.Common.{subst, Option, Some, None}
use Rattle.module_format.specs.Rows.{Fact}
use Rattle.module_format.specs.declared.fact.Fact.TheVariants.{Unknown, Number, Pointer, CodeAddress, Loop}
use Rattle.module_format.specs.declared.fact.Fact.TheVariants.{ReturnAddress}
use Rattle.module_format.specs.declared.fact.Region.{Region}
use Rattle.module_format.specs.declared.rows.EndKind.{EndKind}
use Rattle.module_format.specs.Regions.{is_frame}
use Rattle.machine_state.specs.Site.{Outcome}
use Rattle.states.specs.declared.rule.Rule.{Rule}
use Rattle.states.specs.declared.rule.Rule.TheVariants as rules
use Rattle.states.specs.declared.known.Known.{Known}
use Rattle.states.specs.declared.known.Mode.{Mode}
use Rattle.states.specs.declared.known.WordFact.TheVariants.{Alone}
use Rattle.states.specs.declared.known.Mode.TheVariants.{Plain, Enabling, Disabling, Starting}
use Rattle.states.specs.declared.span.Leaving.{Leaving}
use Rattle.states.specs.State.{State}
use Rattle.states.specs.Spans.{on_span, after_change}
use Rattle.states.specs.declared.span.Leaving.TheVariants.{Become}
use Rattle.word_arithmetic.specs.Range.{full}
use Rattle.rulings.specs.Reach.{word_of_byte, words_touched}
use Rattle.rulings.specs.Rulings.{Ruling, Site, breaks, outside_alternation, outside_starts, alone, uses, forward}
use Rattle.rulings.specs.Rulings.{in_bounds, settles, wants}
use Rattle.rulings.specs.Pointers.{reads_bytes, writes_bytes, leaves_words, number_within}
use Rattle.rulings.specs.Channels.{channel_of, names_channel}
use Rattle.rulings.specs.Filling.{filled, become_numbers, word_behind, words_within}
use Rattle.rulings.specs.declared.pointers.Pointed.{Pointed}
use Rattle.rulings.specs.Fitting.{Situation, it_breaks}
use Rattle.rulings.proofs.Within.{is_starting}
use Rattle.rulings.proofs.Combining.{FitsIf}

abbrev pub Breaks : Ruling → Type 0
Breaks r = (broken : Rule) × (r ≡ breaks broken)

pub breaks_fit : {x : Situation} {r : Ruling} {o : Outcome} → Breaks r → FitsIf x r o
breaks_fit {x} {r} {o} b = subst (λ (q : Ruling). FitsIf x q o) (sym b.1) (λ next. it_breaks)

-- ---- combinators

pub uses_break : (k : Known) (r : Fact → Ruling) → ((f : Fact) → Breaks (r f)) → Breaks (uses k r)
unfolding uses
uses_break k r all = on k.fact
  where
    on : (f : Fact) → Breaks (elim f as (λ f. Ruling) [ Unknown ↦ breaks rules.UnknownRegister | _ ↦ r k.fact ])
    on Unknown = (rules.UnknownRegister, refl)
    on (Number lo hi) = all k.fact
    on (Pointer region lo hi step) = all k.fact
    on (CodeAddress offset) = all k.fact
    on (Loop base count weight) = all k.fact
    on ReturnAddress = all k.fact

pub tested_breaks : (b : Bool) (r : Ruling) (broken : Rule) → Breaks r → Breaks (cond b r (breaks broken))
tested_breaks true r broken all = all
tested_breaks false r broken all = (broken, refl)

pub bounds_break : (b : Bool) (r : Ruling) → Breaks r → Breaks (in_bounds b r)
unfolding in_bounds
bounds_break b r all = tested_breaks b r rules.Number all

pub wants_break : (b : Bool) (broken : Rule) (r : Ruling) → Breaks r → Breaks (wants b broken r)
unfolding wants
wants_break b broken r all = tested_breaks b r broken all

pub settles_break : {A : Type 0} (o : Result A Rule) (r : A → Ruling) → ((v : A) → Breaks (r v)) → Breaks (settles o r)
unfolding settles
settles_break (Ok v) r all = all v
settles_break (Err broken) r all = (broken, refl)

pub reads_break : (site : Site) (s : State) (region : Region) (first end : ℤ) (r : Ruling) → Breaks r
    → Breaks (reads_bytes site s region first end r)
unfolding reads_bytes
reads_break site s region first end r all = tested_breaks _ r rules.Pointer all

pub writes_break : (site : Site) (s : State) (region : Region) (first end : ℤ) (r : Ruling) → Breaks r
    → Breaks (writes_bytes site s region first end r)
unfolding writes_bytes
writes_break site s region first end r all = tested_breaks _ r rules.Pointer all

pub forward_breaks : (e : ℤ) (r : Ruling) → Breaks r → Breaks (forward e r)
unfolding forward
forward_breaks (pos n) r all = all
forward_breaks (negsuc n) r all = (rules.Forward, refl)

-- ---- modes

-- the process is in an alternation, or starts branches
abbrev pub IsBusy : Mode → Type 0
IsBusy mode = mode ≡ Plain → ⊥

-- a process that starts branches is busy
pub starting_is_busy : (mode : Mode) → is_starting mode ≡ true → IsBusy mode
starting_is_busy mode starting e = let no' : true ≡ false = sym starting ∙ ap is_starting e in cc

pub starts_break : (mode : Mode) → is_starting mode ≡ true → (r : Ruling) → Breaks (outside_starts mode r)
unfolding outside_starts
starts_break Plain e r = absurd (cc)
starts_break Enabling e r = absurd (cc)
starts_break (Disabling done) e r = absurd (cc)
starts_break (Starting row started) e r = (rules.Par, refl)

pub alternation_breaks : (mode : Mode) → IsBusy mode → (r : Ruling) → (is_starting mode ≡ true → Breaks r)
    → Breaks (outside_alternation mode r)
unfolding outside_alternation
alternation_breaks Plain busy r all = absurd (busy refl)
alternation_breaks Enabling busy r all = (rules.Alternation, refl)
alternation_breaks (Disabling done) busy r all = (rules.Alternation, refl)
alternation_breaks (Starting row started) busy r all = all refl

pub alone_breaks : (mode : Mode) → IsBusy mode → (r : Ruling) → Breaks (alone mode r)
alone_breaks mode busy r = alternation_breaks mode busy _ (λ e. starts_break mode e r)

pub names_break : (fact : Fact) (r : EndKind → Ruling) → ((kind : EndKind) → Breaks (r kind))
    → Breaks (names_channel fact r)
unfolding names_channel
names_break fact r all = wants_break _ _ _ (on (channel_of (Alone fact)))
  where
    on : (found : Option EndKind)
        → Breaks (elim found as (λ found. Ruling) [ None ↦ breaks rules.Channel | Some kind ↦ r kind ])
    on None = (rules.Channel, refl)
    on (Some kind) = all kind

-- ---- states of the same mode

pub one_mode : (b : Bool) (t s : State) → t.mode ≡ s.mode → (cond b t s).mode ≡ s.mode
one_mode true t s e = e
one_mode false t s e = refl

pub leaves_mode : (p : Pointed) (end : ℤ) (leaving : Leaving) (s : State) → (leaves_words p end leaving s).mode ≡ s.mode
unfolding leaves_words after_change
leaves_mode p end leaving s =
    one_mode (is_frame p.region) (after_change (on_span (word_of_byte p.lo) (words_touched p.lo end) leaving) s) s refl

pub numbers_mode : (p : Pointed) (end : ℤ) (s : State) → (become_numbers p end s).mode ≡ s.mode
unfolding become_numbers after_change
numbers_mode p end s = one_mode _ (after_change
    (on_span (word_behind p.lo) (words_within p.lo end) (Become (number_within full))) s) s refl

pub filled_mode : (numbers : Bool) (p : Pointed) (end : ℤ) (s : State) → (filled numbers p end s).mode ≡ s.mode
unfolding filled
filled_mode true p end s = numbers_mode p end _ ∙ leaves_mode p end _ s
filled_mode false p end s = leaves_mode p end _ s

-- What functions return of facts, with other terms for their arguments.
use Rattle.std.proofs.Common.{◌≡◌, ℕ, ◌+◌, ℤ, pos, ◌-ℤ◌, nat_abs, ◌+ℤ◌, Bool, true, false, cond, ◌≤ℤ◌, negsuc, sym, ap}
use Rattle.std.proofs.Common.{◌∙◌}
use Rattle.std.specs.Prelude.{int_le}
use Rattle.std.proofs.lemmas.Bool.{and_parts}
use Rattle.small_laws.proofs.Comparisons.{int_le-true}
use Rattle.word_arithmetic.specs.Range.{Ends, full}
use Rattle.module_format.specs.Rows.{Fact}
use Rattle.module_format.specs.declared.fact.Region.{Region}
use Rattle.module_format.specs.Regions.{is_frame}
use Rattle.module_format.specs.Contents.{Contents}
use Rattle.states.specs.declared.rule.Rule.TheVariants as rules
use Rattle.rulings.specs.Pointers.{is_near, are_near, reads_bytes, number_within, frame_read, word_read, byte_read}
use Rattle.rulings.specs.Pointers.{is_number_in}
use Rattle.rulings.specs.Filling.{are_numbers}
use Rattle.states.specs.declared.span.Together.{Together}
use Rattle.states.specs.State.{State, Facts}
use Rattle.states.specs.Spans.{together}
use Rattle.rulings.specs.declared.pointers.Pointed.{Pointed}
use Rattle.rulings.specs.Rulings.{Ruling, Site, breaks}
use Rattle.rulings.specs.Reach.{word_of_byte, words_touched, may_read_bytes, region_range}

-- how many words are touched, by the first and the last of them
pub touched_told : (first end y z last low : ℤ) (n : ℕ) → y ≡ end -ℤ pos 1 → last ≡ word_of_byte y → z ≡ first
    → low ≡ word_of_byte z → n ≡ nat_abs (last -ℤ low) → n + 1 ≡ words_touched first end
touched_told first end y z last low n y_is last_is z_is low_is n_is =
    ap (λ (k : ℕ). k + 1) (n_is
    ∙ (ap (λ (w : ℤ). nat_abs (w -ℤ low)) (last_is ∙ ap word_of_byte y_is)
    ∙ ap (λ (w : ℤ). nat_abs (word_of_byte (end -ℤ pos 1) -ℤ w)) (low_is ∙ ap word_of_byte z_is)))

-- ---- bytes that may be read, with other terms for their bounds

pub reads_told : (site : Site) (s : State) (region : Region) (first end a b : ℤ) → a ≡ first → b ≡ end
    → true ≡ may_read_bytes site.contents s.context region a b → (k : Ruling)
    → reads_bytes site s region first end k ≡ k
unfolding reads_bytes
reads_told site s region first end a b a_is b_is may = λ k.
    ap (λ (t : Bool). cond t k (breaks rules.Pointer))
    (ap (may_read_bytes site.contents s.context region first) (sym b_is)
    ∙ (ap (λ (z : ℤ). may_read_bytes site.contents s.context region z b) (sym a_is) ∙ sym may))

pub reads_not_told : (site : Site) (s : State) (region : Region) (first end a b : ℤ) → a ≡ first → b ≡ end
    → false ≡ may_read_bytes site.contents s.context region a b
    → (k : Ruling) → reads_bytes site s region first end k ≡ breaks rules.Pointer
unfolding reads_bytes
reads_not_told site s region first end a b a_is b_is may = λ k.
    ap (λ (t : Bool). cond t k (breaks rules.Pointer))
    (ap (may_read_bytes site.contents s.context region first) (sym b_is)
    ∙ (ap (λ (z : ℤ). may_read_bytes site.contents s.context region z b) (sym a_is) ∙ sym may))

-- ---- what is known of words of the frame

-- the words that are touched, with other terms for their bounds
span_told : (first lo hi w x y f : ℤ) (count : ℕ) → w ≡ lo → first ≡ word_of_byte w → x ≡ lo → y ≡ hi +ℤ pos 1
    → count ≡ words_touched x y → f ≡ first → (f ≡ word_of_byte lo) × (count ≡ words_touched lo (hi +ℤ pos 1))
span_told first lo hi w x y f count w_is first_is x_is y_is count_is f_is = (
  f_is ∙ (first_is ∙ ap word_of_byte w_is),
  count_is ∙ (ap (λ (z : ℤ). words_touched z y) x_is ∙ ap (words_touched lo) y_is),
)

pub together_told : (facts : Facts) (first lo hi w x y f : ℤ) (count : ℕ) (r : Together) → w ≡ lo
    → first ≡ word_of_byte w
    → x ≡ lo → y ≡ hi +ℤ pos 1 → count ≡ words_touched x y → f ≡ first → r ≡ together facts f count
    → r ≡ together facts (word_of_byte lo) (words_touched lo (hi +ℤ pos 1))
together_told facts first lo hi w x y f count r w_is first_is x_is y_is count_is f_is told =
    let span = span_told first lo hi w x y f count w_is first_is x_is y_is count_is f_is in
    told ∙ (ap (λ (z : ℤ). together facts z count) span.0 ∙ ap (together facts (word_of_byte lo)) span.1)

pub frame_told : (m : Contents) (s : State) (region : Region) (first lo hi w x y f : ℤ) (count : ℕ) (r : Fact)
    → is_frame region ≡ true → w ≡ lo → first ≡ word_of_byte w → x ≡ lo → y ≡ hi +ℤ pos 1
    → count ≡ words_touched x y → f ≡ first → r ≡ frame_read s.frame f count → r ≡ word_read m s region lo hi
unfolding word_read
frame_told m s region first lo hi w x y f count r frame_is w_is first_is x_is y_is count_is f_is told =
    let span = span_told first lo hi w x y f count w_is first_is x_is y_is count_is f_is in
    told ∙ (ap (λ (z : ℤ). frame_read s.frame z count) span.0
    ∙ (ap (frame_read s.frame (word_of_byte lo)) span.1
    ∙ sym (ap (λ (b : Bool). cond b (frame_read s.frame (word_of_byte lo) (words_touched lo (hi +ℤ pos 1)))
    (number_within (region_range m s.context region lo (hi +ℤ pos 4)))) frame_is)))

pub region_told : (m : Contents) (s : State) (region : Region) (lo hi first end : ℤ) (range : Ends) (r : Fact)
    → is_frame region ≡ false → first ≡ lo → end ≡ hi +ℤ pos 4 → range ≡ region_range m s.context region first end
    → r ≡ number_within range → r ≡ word_read m s region lo hi
unfolding word_read
region_told m s region lo hi first end range r outside first_is end_is range_is told =
    told
    ∙ (ap number_within (range_is ∙ (ap (λ (z : ℤ). region_range m s.context region z end) first_is
    ∙ ap (region_range m s.context region lo) end_is))
    ∙ sym (ap (λ (b : Bool). cond b (frame_read s.frame (word_of_byte lo) (words_touched lo (hi +ℤ pos 1)))
    (number_within (region_range m s.context region lo (hi +ℤ pos 4)))) outside))

-- ---- offsets that are near

pub near_end : (lo hi : ℤ) → are_near lo hi ≡ true → (negsuc 16777215 ≤ℤ hi) × (hi ≤ℤ pos 16777216)
near_end lo hi h =
    let high = (and_parts (is_near lo) (is_near hi) h).1 in
    let both = and_parts (int_le (negsuc 16777215) hi) (int_le hi (pos 16777216)) high in
    (int_le-true (negsuc 16777215) hi both.0, int_le-true hi (pos 16777216) both.1)

-- ---- bytes that are moved

-- all bytes are those of numbers, with another term for the last
pub numbers_told : (s : State) (p : Pointed) (count low last : ℤ) (byte : Fact) (r : Bool) → low ≡ p.lo
    → last ≡ p.hi +ℤ count -ℤ pos 1 → byte ≡ byte_read s p.region low last → r ≡ is_number_in full byte
    → r ≡ are_numbers s p count
numbers_told s p count low last byte r low_is last_is byte_is told =
    told ∙ ap (is_number_in full) (byte_is ∙ (ap (λ (z : ℤ). byte_read s p.region z last) low_is
    ∙ ap (byte_read s p.region p.lo) last_is))

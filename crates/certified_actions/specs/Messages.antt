-- What the rules of `in` and `out` leave known over a link, and that a process stops.
use Rattle.std.specs.Prelude.{◌≡◌, ℕ, ◌*◌, ◌<◌, ◌≤◌, ◌&&◌, ℤ, pos, negsuc, ◌+ℤ◌, nat_lt, true, if◌then◌else◌}
use Rattle.prefix_decoder.specs.declared.function.Fun.TheVariants as fun
use Rattle.word_arithmetic.specs.Word.{least_word}
use Rattle.word_arithmetic.specs.Range.{full}
use Rattle.module_format.specs.declared.fact.Fact.TheVariants.{Unknown, Number, Pointer}
use Rattle.module_format.specs.declared.rows.Direction.{Direction}
use Rattle.module_format.specs.declared.rows.Direction.TheVariants.{In, Out}
use Rattle.module_format.specs.declared.rows.EndKind.TheVariants.{Link}
use Rattle.module_format.specs.Contents.{link_length}
use Rattle.module_format.specs.Regions.{is_frame}
use Rattle.module_format.specs.Stack.{of_empty, mapped}
use Rattle.certificate.specs.Rights.{may_write_word, has_end}
use Rattle.states.specs.declared.span.Leaving.TheVariants.{Become}
use Rattle.states.specs.Spans.{is_in_span, on_span}
use Rattle.states.specs.State.{Facts, unknown, forgets, changed, with_fact, is_same_number}
use Rattle.rulings.specs.declared.pointers.Pointed.{Pointed}
use Rattle.rulings.specs.Rulings.{ends}
use Rattle.rulings.specs.Filling.{are_numbers, word_behind, words_within}
use Rattle.rulings.specs.Pointers.{are_near, number_within, stored_byte, takes_any}
use Rattle.message_rules.specs.MessageRules.{is_off_scheduling}
use Rattle.facts.specs.Rules.{rule}
use Rattle.code_pieces.specs.declared.operations.TheConstants.{INPUT, OUTPUT, STOP_PROCESS}
use Rattle.code_pieces.specs.Pieces.{operates}
use Rattle.certified_lines.specs.StraightRules.{Setting, Told, state_of}
use Rattle.certified_lines.specs.Instructions.{PieceFalls}
use Rattle.certified_lines.specs.Addresses.{told_state, with_left, MayReadBytes, MayWriteBytes}

-- ---- what is known afterwards

-- nothing is known of the three words below the workspace, which scheduling takes
abbrev pub scheduled : (depth : ℕ) → Facts → Facts
scheduled depth f =
    with_fact (pos depth +ℤ negsuc 2) Unknown
    (with_fact (pos depth +ℤ negsuc 1) Unknown (with_fact (pos depth +ℤ negsuc 0) Unknown f))

-- nor of registers, once a process has waited
abbrev pub exchanged : Setting → Told → Told
exchanged g t = record { stack = of_empty unknown; frame = scheduled g.depth t.frame }

-- words of the frame with no other bytes than these are any numbers
abbrev pub with_numbers : Pointed → ℤ → Told → Told
with_numbers p end t =
    if is_frame p.region && nat_lt 0 (words_within p.lo end)
    then record {
      stack = mapped (forgets (is_in_span (word_behind p.lo) (words_within p.lo end))) t.stack;
      frame =
          changed (on_span (word_behind p.lo) (words_within p.lo end) (Become (number_within full))) t.frame;
    }
    else t

-- a message came to where a pointer leads, whose bytes end there
abbrev pub with_received : Pointed → ℤ → Told → Told
with_received p end t =
    if is_same_number p.lo p.hi then with_numbers p end (with_left p end stored_byte t)
    else with_left p end stored_byte t

-- ---- what is asked

-- the three words below the workspace may be written
abbrev pub MaySchedule : Setting → Type 0
MaySchedule g = (n : ℕ) → n < 3 → may_write_word g.contents g.context (pos g.depth +ℤ negsuc n) ≡ true

-- the address of a link: links are the lowest words of memory
abbrev pub link_address : ℕ → ℤ
link_address link = least_word +ℤ pos (4 * link)

-- A is the length of a message, B the address of a link that has such messages and whose end in this direction the
-- code has, and C leads to where the message is, which is not where scheduling writes.
pub record MayExchange (g : Setting) (way : Direction) (s : Told) (count link : ℕ) (p : Pointed) : Type 0 where
  pub a : s.stack.a.fact ≡ Number (pos count) (pos count)
  pub b : s.stack.b.fact ≡ Number (link_address link) (link_address link)
  pub c : s.stack.c.fact ≡ Pointer p.region p.lo p.hi p.step
  pub near : are_near p.lo p.hi ≡ true
  pub some : 1 ≤ count
  pub few : count ≤ 4096
  pub inside : link < 8
  pub end : has_end g.contents g.context (record { kind = Link link; direction = way }) ≡ true
  pub length : link_length g.contents link ≡ count
  pub schedules : MaySchedule g
  pub off : is_off_scheduling (told_state g s) p (p.hi +ℤ pos count) ≡ true

-- ---- the rules

-- a message comes to where numbers may be written
abbrev pub ReceivedBytesAreKnown : Type 0
ReceivedBytesAreKnown = (g : Setting) (s : Told) (count link : ℕ) (p : Pointed) → MayExchange g In s count link p
    → takes_any g.contents g.context s.stack.c.fact ≡ true → MayWriteBytes g p.region p.lo (p.hi +ℤ pos count)
    → PieceFalls g (operates INPUT) s (exchanged g (with_received p (p.hi +ℤ pos count) s))

-- a message goes from where numbers may be read
abbrev pub SentBytesAreKnown : Type 0
SentBytesAreKnown = (g : Setting) (s : Told) (count link : ℕ) (p : Pointed) → MayExchange g Out s count link p
    → are_numbers (told_state g s) p (pos count) ≡ true → MayReadBytes g p.region p.lo (p.hi +ℤ pos count)
    → PieceFalls g (operates OUTPUT) s (exchanged g s)

-- what stops breaks no rule where it can pay, whatever is known
abbrev pub StopsEnd : Type 0
StopsEnd = (g : Setting) (s : Told) (at size number : ℕ) → MaySchedule g → size ≤ number
    → rule (record { contents = g.contents; at = at; length = size }) fun.Operate STOP_PROCESS (state_of g s number)
    ≡ ends

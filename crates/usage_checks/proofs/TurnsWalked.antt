-- The body of a replicator is gone over turn by turn.
use Rattle.std.proofs.Common.{◌≡◌, ℕ, ◌+◌, Bool, true, false, length, refl, sym, ap, subst, ◌∙◌, add-one}
use Rattle.occam_parser.specs.Lines.{Replicator, block_word}
use Rattle.occam_parser.specs.Blocks.{Body, One, Replicated}
use Rattle.scalar_ranges.specs.Entries.{Meaning}
use Rattle.scalar_ranges.specs.Moves.{Known, begin}
use Rattle.program_uses.specs.Actions.{Around, is_before}
use Rattle.program_uses.specs.ActionViews.{around_of}
use Rattle.program_uses.specs.Changes.{changed_by_body}
use Rattle.program_uses.specs.Declaring.{add}
use Rattle.program_uses.specs.Indices.{is_sequence, Repeats, repeats_of, index_in, turn_by_turn}
use Rattle.usage_checks.specs.declared.blocks.Site.{Site}
use Rattle.usage_checks.specs.declared.channel_rules.Position.{Position}
use Rattle.program_uses.specs.declared.telling.UsageFault.{UsageFault}
use Rattle.usage_checks.specs.declared.telling.Findings.{Findings}
use Rattle.usage_checks.specs.AfterProcesses.{unless, begun_turns, begun_body, repeated, after_component}
use Rattle.usage_checks.specs.AfterProcesses.{after_body}
use Rattle.usage_checks.specs.LineRules.{BreaksReplicator}
use Rattle.usage_checks.specs.NameRules.{with_entries}
use Rattle.usage_checks.specs.ProcessRules.{BreaksInTurns, position_in, BreaksComponent, BreaksBody}
use Rattle.usage_checks.specs.Reaching.{turn_of}
use Rattle.program_uses.specs.Telling.{At}
use Rattle.usage_checks.specs.Telling.{Walks}
use Rattle.usage_checks.specs.Walking.{word_of, WalksBody, WalksTurn, WalksConstruct}
use Rattle.usage_checks.proofs.ComponentsWalked.{walks_after}
use Rattle.usage_checks.proofs.FaultsInOrder.{walks_both, walks_then, walks_moved}

abbrev pub BreaksTurn : Around → Position → Replicator → Body → Repeats → ℕ → Known → UsageFault → Type 0
BreaksTurn a p r (One kind c) repeats n k = BreaksComponent a p c (with_entries (add r.name (index_in repeats n)) k)

abbrev pub WalksTurns : (s t : Findings) → Site → Replicator → Body → Repeats → ℕ → (before after : Known) → Type 0
WalksTurns s t site r b repeats n before after =
    let a = around_of site.around in
    Walks s t after (turn_by_turn (turn_of a r b repeats) n before)
    (BreaksInTurns (turn_of a r b repeats) (BreaksTurn a site.position r b repeats) n before)

pub turns_start : (s : Findings) (site : Site) (r : Replicator) (b : Body) (repeats : Repeats) (k : Known)
    → WalksTurns s s site r b repeats 0 k k
turns_start s site r b repeats k = walks_moved s k k refl

one_turn : (b : Body) (site : Site) (r : Replicator) (repeats : Repeats) (n : ℕ) (l : Known) {s t w : Findings}
    {j m : Known} → Walks s t j (with_entries (add r.name (index_in repeats n)) l) (λ f. ⊥)
    → WalksTurn t w site b j m
    → Walks s w m (turn_of (around_of site.around) r b repeats n l)
    (BreaksTurn (around_of site.around) site.position r b repeats n l)
one_turn (One kind c) site r repeats n l entered walked =
    walks_after (after_component (around_of site.around) (block_word kind) c)
    (BreaksComponent (around_of site.around) site.position c) entered walked

pub turns_more : (b : Body) (site : Site) (r : Replicator) (repeats : Repeats) (n : ℕ) (m : Meaning) (k : Known)
    {s t u w : Findings} {l j h : Known} → m ≡ index_in repeats n → WalksTurns s t site r b repeats n k l
    → Walks t u j (with_entries (add r.name m) l) (λ f. ⊥) → WalksTurn u w site b j h
    → WalksTurns s w site r b repeats (n + 1) k h
turns_more b site r repeats n m k {s} {t} {u} {w} {l} {j} {h} means before entered walked =
    let a = around_of site.around in
    let indexed = subst (λ m. Walks t u j (with_entries (add r.name m) l) (λ f. ⊥)) means entered in
    subst (λ n. WalksTurns s w site r b repeats n k h) (sym (add-one n))
    (walks_both (turn_of a r b repeats n) (BreaksTurn a site.position r b repeats n) before
    (one_turn b site r repeats n l indexed walked))

pub entries_unless : (happens : Bool) (k : Known) → (unless happens begin k).entries ≡ k.entries
entries_unless true k = refl
entries_unless false k = refl

whole_body : (b : Body) (site inner : Site) (line : ℕ) (r : Replicator) (k : Known) {s w : Findings} {n : Known}
    → inner.around ≡ site.around → inner.position ≡ position_in (word_of b) (length k.entries) site.position
    → (let a = around_of site.around in
    let repeats = repeats_of (is_before line a.uncounted) k.entries (is_sequence b) r in
    let start = begun_body (word_of b) (changed_by_body a.signatures k.entries r b) repeats.happens k in
    Walks s w n (repeated repeats.happens
    (turn_by_turn (turn_of (around_of inner.around) r b repeats) repeats.turns.count start))
    (BreaksInTurns (turn_of (around_of inner.around) r b repeats)
    (BreaksTurn (around_of inner.around) inner.position r b repeats) repeats.turns.count start))
    → WalksBody s w site line r b k n
whole_body (One kind c) site inner line r k {s} {w} {n} around position walked =
    let a = around_of site.around in
    let b = One kind c in
    let repeats = repeats_of (is_before line a.uncounted) k.entries (is_sequence b) r in
    let start = begun_body (word_of b) (changed_by_body a.signatures k.entries r b) repeats.happens k in
    subst (λ (x : Around × Position).
    Walks s w n (repeated repeats.happens (turn_by_turn (turn_of x.0 r b repeats) repeats.turns.count start))
    (BreaksInTurns (turn_of x.0 r b repeats) (BreaksTurn x.0 x.1 r b repeats) repeats.turns.count start))
    (λ i. (around_of (around i), position i)) walked

pub walks_body : (b : Body) (site inner : Site) (line : ℕ) (r : Replicator) (repeats : Repeats) (count turns : ℕ)
    (k : Known) {s t u w : Findings} {j l m n : Known}
    → repeats ≡ repeats_of (is_before line (around_of site.around).uncounted) k.entries (is_sequence b) r
    → inner.around ≡ site.around → inner.position ≡ position_in (word_of b) count site.position
    → count ≡ length k.entries → Walks s t j (unless repeats.happens begin k) (λ f. ⊥)
    → Walks t u l (begun_turns (word_of b)
    (changed_by_body (around_of site.around).signatures j.entries r b) j) (λ f. ⊥)
    → turns ≡ repeats.turns.count → WalksTurns u w inner r b repeats turns l m → n ≡ repeated repeats.happens m
    → WalksBody s w site line r b k n
walks_body b site inner line r repeats count turns k {s} {t} {u} {w} {j} {l} {m} {n} is around position long outer
    begins all walked ends =
    let a = around_of site.around in
    let start = walks_after (λ j. begun_turns (word_of b) (changed_by_body a.signatures j.entries r b) j)
    (λ j f. ⊥) outer begins in
    let started = subst (λ es. Walks s u l
    (begun_body (word_of b) (changed_by_body a.signatures es r b) repeats.happens k) (λ f. ⊥))
    (entries_unless repeats.happens k) start in
    let every = subst (λ turns. WalksTurns u w inner r b repeats turns l m) all walked in
    let step = turn_of (around_of inner.around) r b repeats in
    let turns = walks_after (turn_by_turn step repeats.turns.count)
    (BreaksInTurns step (BreaksTurn (around_of inner.around) inner.position r b repeats) repeats.turns.count) started
    every in
    let whole = walks_then (repeated repeats.happens) turns ends in
    whole_body b site inner line r k around (position ∙ ap (λ c. position_in (word_of b) c site.position) long)
    (subst (λ (x : Repeats). Walks s w n
    (repeated x.happens (turn_by_turn (turn_of (around_of inner.around) r b x) x.turns.count
    (begun_body (word_of b) (changed_by_body a.signatures k.entries r b) x.happens k)))
    (BreaksInTurns (turn_of (around_of inner.around) r b x)
    (BreaksTurn (around_of inner.around) inner.position r b x) x.turns.count
    (begun_body (word_of b) (changed_by_body a.signatures k.entries r b) x.happens k))) is whole)

-- a replicator and its body
pub walks_replicated : (site : Site) (line : ℕ) (r : Replicator) (b : Body) (k : Known) {s t w : Findings} {n : Known}
    → Walks s t k k (At line (BreaksReplicator k.entries r)) → WalksBody t w site line r b k n
    → WalksConstruct s w site line (Replicated r b) k n
walks_replicated site line r b k replicator walked =
    let a = around_of site.around in
    walks_both (after_body a line r b) (BreaksBody a site.position line r b) replicator walked

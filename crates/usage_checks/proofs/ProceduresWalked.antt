-- A procedure is gone over by its formals, what its body uses, and its body, and then left.
use Rattle.std.proofs.Common.{◌≡◌, ℕ, List, length, ap, subst, ◌∙◌, ◌⊎◌}
use Rattle.occam_parser.specs.Lines.{Formal}
use Rattle.occam_parser.specs.Blocks.{Procedure}
use Rattle.scalar_ranges.specs.Moves.{Known}
use Rattle.program_uses.specs.Actions.{Around}
use Rattle.program_uses.specs.Declaring.{add_formals}
use Rattle.program_uses.specs.Sharing.{Shares}
use Rattle.program_uses.specs.declared.telling.UsageFault.{UsageFault}
use Rattle.usage_checks.specs.declared.channel_rules.Position.{Position}
use Rattle.usage_checks.specs.declared.telling.Findings.{Findings}
use Rattle.usage_checks.specs.AfterProcesses.{inside, left_to}
use Rattle.usage_checks.specs.FormalRules.{BreakSizes, BreakFormals}
use Rattle.usage_checks.specs.ItemRules.{body_position, after_procedure, BreaksProcedure}
use Rattle.usage_checks.specs.MainRules.{is_main_name}
use Rattle.usage_checks.specs.NameRules.{with_entries}
use Rattle.usage_checks.specs.ProcessRules.{BreaksIn}
use Rattle.program_uses.specs.Telling.{At}
use Rattle.usage_checks.specs.Telling.{Walks}
use Rattle.usage_checks.proofs.FaultsInOrder.{walks_both, walks_then}

-- the formals of a head on this line
abbrev pub WalksHead : (s t : Findings) → ℕ → List Formal → (before after : Known) → Type 0
WalksHead s t line fs k l =
    Walks s t l (with_entries (add_formals k.entries fs) k)
    (λ f. At line (BreakSizes k.entries fs) f ⊎ BreakFormals (length k.entries) line k.entries fs k.entries f)

pub walks_procedure : (a : Around) (position : Position) (p : Procedure) (k : Known) (fs : List Formal)
    (formals declared : ℕ) {s t u w : Findings} {l j m n : Known} → fs ≡ p.head.formals
    → formals ≡ length k.entries
    → declared ≡ length j.entries
    → position ≡ body_position (is_main_name p.head.name) formals declared → WalksHead s t p.line fs k l
    → Walks t u j l (Shares a l.entries p.body)
    → Walks u w m (inside a p.body j) (BreaksIn a position (length j.entries) p.body j)
    → n ≡ left_to formals m
    → Walks s w n (after_procedure a p k) (BreaksProcedure a p k)
walks_procedure a position p k fs formals declared {s} {t} {u} {w} {l} {j} {m} {n} same long begun stands head uses body
    left =
    let is_main = is_main_name p.head.name in
    let inner : Known → Position = λ l. body_position is_main (length k.entries) (length l.entries) in
    let placing : position ≡ inner j = stands ∙ (λ i. body_position is_main (long i) (begun i)) in
    let placed = subst (λ x. Walks u w m (inside a p.body j) (BreaksIn a x (length j.entries) p.body j)) placing
    body in
    let Breaks : Known → UsageFault → Type 0 = λ l. BreaksIn a (inner l) (length l.entries) p.body l in
    let first = subst (λ fs. WalksHead s t p.line fs k l) same head in
    walks_then (left_to (length k.entries))
    (walks_both (inside a p.body) (λ l f. Shares a l.entries p.body f ⊎ Breaks l f) first
    (walks_both (inside a p.body) Breaks uses placed)) (left ∙ ap (λ n. left_to n m) long)

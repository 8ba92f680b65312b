-- How the lines around a line are written, one entry more.
use Rattle.std.proofs.Common.{◌≡◌, ◌<◌, ◌≤◌, ℕ, suc, ◌+◌, nat_lt, true, false, if◌then◌else◌, List, [], ◌++◌}
use Rattle.std.proofs.Common.{Option, None, Some, slice_get, ap, ◌∙◌, add-one, arith}
use Rattle.std.specs.Option.{option_map_or}
use Rattle.source_lines.specs.declared.entry.LineEntry.{LineEntry}
use Rattle.source_lines.specs.SourceLines.{Text, around_text, around_with, entry_text, last_text, within_text}

next : (text : ℕ → Text) (k j : ℕ) → j ≡ k + 1 → text j ≡ text (suc k)
next text k j is = ap text (is ∙ add-one k)

-- one entry more
more : (es : List LineEntry) (k j depth line : ℕ) (o : Option LineEntry) → j ≡ k + 1 → slice_get es k ≡ o
    → around_text es j depth line ≡ around_with (around_text es k) depth line o
more es k j depth line o is at =
    next (λ n. around_text es n depth line) k j is ∙ ap (around_with (around_text es k) depth line) at

-- there is none
pub around_none : (es : List LineEntry) (k j depth line : ℕ) → j ≡ k + 1 → slice_get es k ≡ None
    → around_text es j depth line ≡ around_text es k depth line
around_none es k j depth line is none = more es k j depth line None is none

-- it is as deep
pub around_deeper : (es : List LineEntry) (k j depth line : ℕ) (e : LineEntry) → j ≡ k + 1 → slice_get es k ≡ Some e
    → depth ≤ e.depth → around_text es j depth line ≡ around_text es k depth line
around_deeper es k j depth line e is some deeper =
    let not : nat_lt e.depth depth ≡ false = grind arith in
    more es k j depth line (Some e) is some
    ∙ ap (λ b. if b then within_text line e.line ++ around_text es k e.depth e.line else around_text es k depth line) not

-- it is around
pub around_outer : (es : List LineEntry) (k j depth line : ℕ) (e : LineEntry) → j ≡ k + 1 → slice_get es k ≡ Some e
    → e.depth < depth
    → around_text es j depth line ≡ within_text line e.line ++ around_text es k e.depth e.line
around_outer es k j depth line e is some less =
    let lt : nat_lt e.depth depth ≡ true = grind arith in
    more es k j depth line (Some e) is some
    ∙ ap (λ b. if b then within_text line e.line ++ around_text es k e.depth e.line else around_text es k depth line) lt

pub last_none : (es : List LineEntry) (k j : ℕ) → j ≡ k + 1 → slice_get es k ≡ None → last_text es j ≡ []
last_none es k j is none = next (last_text es) k j is ∙ ap (λ o. option_map_or (entry_text es k) o []) none

pub last_entry : (es : List LineEntry) (k j : ℕ) (e : LineEntry) → j ≡ k + 1 → slice_get es k ≡ Some e
    → last_text es j ≡ entry_text es k e
last_entry es k j e is some = next (last_text es) k j is ∙ ap (λ o. option_map_or (entry_text es k) o []) some

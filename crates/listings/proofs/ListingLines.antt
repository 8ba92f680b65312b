-- The lines of a listing, one after the other.
use Rattle.std.proofs.Common.{◌≡◌, ℕ, zero, suc, ◌+◌, ◌<◌, ◌≤◌, [], ◌++◌}
use Rattle.std.proofs.Common.{length}
use Rattle.std.proofs.Common.{cond, refl, ap, sym, ◌∙◌, append_assoc, append-nil, arith}
use Rattle.std.proofs.lemmas.Bool.{lt-ltb, le-ltb}
use Rattle.fact_texts.specs.Texts.{Text}
use Rattle.module_format.specs.Contents.{Contents}
use Rattle.listings.specs.Listing.{listed_line, listed_size, lines_from, listing}

-- What is written are the first lines, and those from an offset on are left.
pub record Lists (m : Contents) (written : Text) (at : ℕ) : Type 0 where
  pub more : ℕ
  pub enough : length m.code ≤ at + more
  pub all : listing m ≡ written ++ lines_from m more at

pub nothing_listed : (m : Contents) → Lists m [] 0
nothing_listed m = record { more = length m.code; enough = omega arith; all = refl }

-- an offset of the code has a line
line_first : (m : Contents) (more at : ℕ) → at < length m.code
    → lines_from m (suc more) at ≡ listed_line m at ++ lines_from m more (at + listed_size m at)
line_first m more at within =
    ap (λ b. cond b (listed_line m at ++ lines_from m more (at + listed_size m at)) [])
    (lt-ltb at (length m.code) within)

-- and one after the code has none
line_last : (m : Contents) (more at : ℕ) → length m.code ≤ at → lines_from m more at ≡ []
line_last m zero at end = refl
line_last m (suc more) at end =
    ap (λ b. cond b (listed_line m at ++ lines_from m more (at + listed_size m at)) []) (le-ltb at (length m.code) end)

pub line_listed : (m : Contents) (before after : Text) (at size : ℕ) → at < length m.code → 1 ≤ size
    → size ≡ listed_size m at → after ≡ before ++ listed_line m at → Lists m before at → Lists m after (at + size)
line_listed m before after at size within some is line lists = go lists.more lists.enough lists.all
  where
    go : (more : ℕ) → length m.code ≤ at + more → listing m ≡ before ++ lines_from m more at → Lists m after (at + size)
    go zero enough all = absurd (omega arith)
    go (suc more) enough all = record {
      more = more;
      enough = omega arith;
      all = all ∙ ap (λ (t : Text). before ++ t) (line_first m more at within)
          ∙ sym (append_assoc before (listed_line m at) (lines_from m more (at + listed_size m at)))
          ∙ ap (λ (t : Text). t ++ lines_from m more (at + listed_size m at)) (sym line)
          ∙ ap (λ (n : ℕ). after ++ lines_from m more (at + n)) (sym is);
    }

-- after the code all are written
pub all_listed : (m : Contents) (written : Text) (at : ℕ) → length m.code ≤ at → Lists m written at
    → written ≡ listing m
all_listed m written at end lists =
    sym (lists.all ∙ ap (λ (t : Text). written ++ t) (line_last m lists.more at end) ∙ append-nil written)

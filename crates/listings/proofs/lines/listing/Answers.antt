use Rattle.std.proofs.Common.{◌≡◌, sym, ◌++◌, ◌<◌, ◌≤◌, length, arith, string_bytes, subst}
use Rattle.fact_texts.specs.Texts.{Text}
use Rattle.module_format.specs.Contents.{Contents}
use Rattle.listings.specs.Listing.{listed_line, listed_size}
use Rattle.listings.proofs.ListingLines.{Lists, nothing_listed, line_listed, all_listed}
use Rattle.listings.proofs.lines.listing.Goals as goal

pub loop-at-init : goal.loop-at-init
loop-at-init c = record {
  lists = subst (λ (t : Text). Lists c.args.module.now t 0) (sym c.new-text.ensures.bytes)
      (nothing_listed c.args.module.now);
  within = omega arith;
}

pub loop-at-preserved : goal.loop-at-preserved
loop-at-preserved c =
    let pushed = c.in_ok-at.ensures in
    let same = c.tables-tables.ensures.contents in
    let within = c.loop-at-test.true in
    record {
      lists = line_listed c.args.module.now (string_bytes c.loop-at.text) _ c.loop-at.at c.in_ok-at.field-0
          (subst (λ (m : Contents). c.loop-at.at < length m.code) same within) pushed.within.0
          (subst (λ (m : Contents). c.in_ok-at.field-0 ≡ listed_size m c.loop-at.at) same pushed.size)
          (subst (λ (m : Contents). string_bytes c.push_line.new.text
          ≡ string_bytes c.loop-at.text ++ listed_line m c.loop-at.at) same pushed.line)
          c.loop-at.invariant.lists;
      within = pushed.within.1;
    }

pub returns : goal.returns
returns c =
    all_listed c.args.module.now _ c.loop-at.at
    (subst (λ (m : Contents). length m.code ≤ c.loop-at.at) c.tables-tables.ensures.contents c.loop-at-test.false)
    c.loop-at.invariant.lists

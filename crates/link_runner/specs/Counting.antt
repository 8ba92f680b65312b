-- What a runner counts.
use Rattle.std.specs.Prelude.{ℕ, ◌+◌, ◌-◌, ◌^◌, min, Bool, true, if◌then◌else◌, is_none, List, [], ◌∷◌, length}
use Rattle.machine_state.specs.declared.link.Link.{Link}
use Rattle.machine_state.specs.declared.link.Link.TheVariants.{Zero, One, Two, Three}
use Rattle.link_runs.specs.ByLink.{ByLink}
use Rattle.link_runs.specs.FirstInFirstOut.{RunMoment}
use Rattle.link_runner.specs.declared.report.Outcome.TheVariants as outcomes
use Rattle.link_runner.specs.declared.report.Report.{Report}
use Rattle.link_runner.specs.declared.tally.Counts.{Counts}
use Rattle.link_runner.specs.declared.tally.Ended.{Ended}
use Rattle.link_runner.specs.declared.tally.Tally.{Tally}

-- a count of 64 bits, which stays at its greatest
abbrev pub saturated : ℕ → ℕ
saturated n = min n (2 ^ 64 - 1)

abbrev pub flag_of : Ended → Link → Bool
flag_of ended Zero = ended.first
flag_of ended One = ended.second
flag_of ended Two = ended.third
flag_of ended Three = ended.fourth

abbrev pub with_flag : Link → Ended → Ended
with_flag Zero ended = record ended { first = true }
with_flag One ended = record ended { second = true }
with_flag Two ended = record ended { third = true }
with_flag Three ended = record ended { fourth = true }

-- `n` more on this link
abbrev pub with_count : Link → ℕ → Counts → Counts
with_count Zero n counts = record counts { first = saturated (counts.first + n) }
with_count One n counts = record counts { second = saturated (counts.second + n) }
with_count Two n counts = record counts { third = saturated (counts.third + n) }
with_count Three n counts = record counts { fourth = saturated (counts.fourth + n) }

-- which links have ended at a moment
abbrev pub ended_at : RunMoment → Ended
ended_at s = record {
  first = is_none s.left.first;
  second = is_none s.left.second;
  third = is_none s.left.third;
  fourth = is_none s.left.fourth;
}

abbrev pub counts_of : ByLink ℕ → Counts
counts_of all = record {
  first = saturated all.first;
  second = saturated all.second;
  third = saturated all.third;
  fourth = saturated all.fourth;
}

abbrev pub lengths_of : ByLink (List ℕ) → ByLink ℕ
lengths_of all = record {
  first = length all.first;
  second = length all.second;
  third = length all.third;
  fourth = length all.fourth;
}

abbrev pub in_order : Counts → List ℕ
in_order counts = counts.first ∷ counts.second ∷ counts.third ∷ counts.fourth ∷ []

-- what a runner has counted at a moment
abbrev pub tally_of : RunMoment → Tally
tally_of s = record {
  ended = ended_at s;
  read = counts_of s.read;
  written = counts_of (lengths_of s.written);
}

-- what is reported of a run that ends at this moment
abbrev pub report_of : RunMoment → Report
report_of s = record {
  outcome = if s.world.counters.is_finished then outcomes.Ended else outcomes.Idle;
  executed = s.world.counters.executed;
  read = in_order (counts_of s.read);
  written = in_order (counts_of (lengths_of s.written));
}

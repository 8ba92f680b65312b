use Rattle.scalar_ranges.proofs.deferred.Deferred.new.Goals as goal

pub invariant_of-result-clause-apart : goal.invariant_of-result-clause-apart
invariant_of-result-clause-apart c = tt

-- What a branch of a PAR is given: what is started already, and whether there is something to give. What it has in
-- common with others is in `Siblings` of `certificate`.
use Rattle.std.specs.Prelude.{ℕ, ◌&&◌, ◌||◌, Bool, pos, ◌-ℤ◌, List, [], is_some}
use Rattle.std.specs.List.{list_all}
use Rattle.module_format.specs.declared.rows.EndRow.{EndRow}
use Rattle.module_format.specs.Contents.{Contents, Par, Branch}
use Rattle.certificate.specs.Rights.{may_write_word, has_end}
use Rattle.certificate.specs.Siblings.{first_branches}
use Rattle.states.specs.declared.known.Mode.{Mode}
use Rattle.states.specs.declared.known.Mode.TheVariants.{Starting}
use Rattle.rulings.specs.Reach.{readable_bytes, writable_bytes}
use Rattle.rulings.specs.Remaining.{is_own_end}

-- the branches that a process in this mode has started
abbrev pub started_in : Contents → Mode → List Branch
started_in m (Starting row started) = first_branches m row started
started_in m mode = []

-- ---- ends

-- the context has the end, or the PAR brings its channel
abbrev pub has_end_to_give : Contents → ℕ → Par → EndRow → Bool
has_end_to_give m context par e = has_end m context e || is_own_end par e.kind

-- ---- words and parameters

-- the context may write what the parameters name that the branch writes, and read what those name that it reads
abbrev pub may_give_parameters : Contents → ℕ → Branch → Bool
may_give_parameters m context b =
    list_all (λ j. is_some (writable_bytes m context j)) b.written_parameters
    && list_all (λ j. is_some (readable_bytes m context j)) b.read_parameters

-- it may write the three words below its workspace, which scheduling takes
abbrev pub has_scheduling_words : Contents → ℕ → Branch → Bool
has_scheduling_words m context b =
    may_write_word m context (b.workspace -ℤ pos 1) && may_write_word m context (b.workspace -ℤ pos 2)
    && may_write_word m context (b.workspace -ℤ pos 3)

-- What the first start of a PAR finds out, as the definitions have it.
use Rattle.std.specs.Prelude.{◌≡◌, ℕ, pos, List, [], map, length}
use Rattle.module_format.specs.declared.rows.Parameter.{Parameter}
use Rattle.module_format.specs.Contents.{Par}
use Rattle.machine_state.specs.Holding.{Holding}
use Rattle.machine_state.specs.JoinLookups.{Found, named_from}
use Rattle.machine_state.specs.StartPlans.{Plan, channel_addresses, hidden, with_ends, word_in}
use Rattle.machine_state.specs.BranchShares.{frame_base}
use Rattle.machine_state.specs.Memory.{Memory, place_of}
use Rattle.machine_state.specs.Spans.{less}
use Rattle.machine_state.specs.Views.{holding_view}
use Rattle.machine_state.specs.declared.spans.Stretch.{Stretch}
use Rattle.joins.specs.declared.opening.Opening.{Opening}

-- the places of the word at an address
abbrev pub word_stretch : ℕ → Stretch
word_stretch address = record { start = pos (place_of address); size = 4 }

-- what branches can be given of a holding
abbrev pub opened_rest : ℕ → Holding → ℕ → Par → Holding
opened_rest n h base par =
    let rest = less n h (hidden base par) in
    record rest { ends = with_ends (channel_addresses base par) rest.ends }

pub record IsOpening (memory : Memory) (h : Holding) (workspace : ℕ) (par : Par) (parameters : List Parameter)
    (o : Opening) : Type 0 where
  pub base : o.base ≡ frame_base workspace par.depth
  pub words : o.words.items ≡ named_from par 0 parameters
  pub addresses : o.addresses.items ≡ map (word_in h memory o.base) o.words.items
  pub rest : holding_view o.rest ≡ opened_rest (length memory) h o.base par

-- what the first start goes by, but for the members
abbrev pub opening_plan : Opening → Found → List Parameter → Plan
opening_plan o found parameters = record {
  row = found.row;
  par = found.par;
  base = o.base;
  parameters = parameters;
  addresses = o.addresses.items;
  started = 0;
  rest = holding_view o.rest;
  members = [];
}

-- A machine that is asked.
use Rattle.module_format.specs.Contents.{Contents}
use Rattle.machine_state.specs.World.{World}

-- a module that runs: what it says, and the world at the moment
pub record Execution : Type 0 where
  pub contents : Contents
  pub world : World

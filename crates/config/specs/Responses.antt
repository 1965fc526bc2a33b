-- What the fault table says.
use Rattle.std.specs.Prelude.{ℕ}
use Rattle.tables.specs.declared.Tables.{Tables}
use Rattle.tables.specs.declared.response.Response.{Response}
use Rattle.tables.specs.declared.response.Scope.{Scope}
use Rattle.tables.specs.declared.response.Scope.TheVariants.{Partition, System}
use Rattle.machine.specs.Questions.{response}
use Rattle.machine.specs.Faults.{system_response}

-- at an event of a partition, and at one of the system
abbrev pub response_of : Tables → Scope → ℕ → Response
response_of k (Partition q) e = response k q e
response_of k System e = system_response k e

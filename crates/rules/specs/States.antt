-- Document 01, "States", and document 02, S-3: the state map, and what is allowed where. What power on and power loss set is in Ledger.
use Rattle.std.specs.Prelude.{ℕ, Bool, true, false, ◌&&◌, ◌||◌, ltb}
use Rattle.rules.specs.declared.states.State.{State}
use Rattle.rules.specs.declared.states.State.TheVariants.{Unpowered, Dormant, Operational, Maintenance}
use Rattle.rules.specs.declared.calls.Command.{Command}
use Rattle.rules.specs.declared.calls.Command.TheVariants.{Automated, Open, ForceClosed}
use Rattle.rules.specs.declared.calls.Request.{Request}
use Rattle.rules.specs.declared.calls.Request.TheVariants.{Dormant as ToDormant, Operational as ToOperational, Maintenance as ToMaintenance}

abbrev pub is_powered : State → Bool
is_powered Unpowered = false
is_powered Dormant = true
is_powered Operational = true
is_powered Maintenance = true

-- the state that a request names
abbrev pub requested : Request → State
requested ToDormant = Dormant
requested ToOperational = Operational
requested ToMaintenance = Maintenance

-- which requests are allowed in which state
abbrev pub StateMap : Type 0
StateMap = State → Request → Bool

-- "State requests allowed: Dormant to Operational, Operational to Dormant, Operational to Maintenance, Maintenance to Operational, and a
-- state to itself.": document 01's map
abbrev pub request_listed : StateMap
request_listed Unpowered ToDormant = false
request_listed Unpowered ToOperational = false
request_listed Unpowered ToMaintenance = false
request_listed Dormant ToDormant = true
request_listed Dormant ToOperational = true
request_listed Dormant ToMaintenance = false
request_listed Operational ToDormant = true
request_listed Operational ToOperational = true
request_listed Operational ToMaintenance = true
request_listed Maintenance ToDormant = false
request_listed Maintenance ToOperational = true
request_listed Maintenance ToMaintenance = true

-- document 02, S-3: "Maintenance straight to Dormant"
abbrev pub is_shortcut : StateMap
is_shortcut Unpowered q = false
is_shortcut Dormant q = false
is_shortcut Operational q = false
is_shortcut Maintenance ToDormant = true
is_shortcut Maintenance ToOperational = false
is_shortcut Maintenance ToMaintenance = false

-- "the wider state map", which is the one in force
abbrev pub request_allowed : StateMap
request_allowed s q = request_listed s q || is_shortcut s q

-- "A real change of state": the state named is not the present one.
abbrev pub is_change : State → Request → Bool
is_change Unpowered ToDormant = true
is_change Unpowered ToOperational = true
is_change Unpowered ToMaintenance = true
is_change Dormant ToDormant = false
is_change Dormant ToOperational = true
is_change Dormant ToMaintenance = true
is_change Operational ToDormant = true
is_change Operational ToOperational = false
is_change Operational ToMaintenance = true
is_change Maintenance ToDormant = true
is_change Maintenance ToOperational = true
is_change Maintenance ToMaintenance = false

-- a change that enters Dormant
abbrev pub enters_dormant : State → Request → Bool
enters_dormant s ToDormant = is_change s ToDormant
enters_dormant s ToOperational = false
enters_dormant s ToMaintenance = false

-- "Contactor commands: Automated and Open in Operational and Maintenance, Force closed in Maintenance only."
abbrev pub command_in : State → Command → Bool
command_in Unpowered c = false
command_in Dormant c = false
command_in Operational Automated = true
command_in Operational Open = true
command_in Operational ForceClosed = false
command_in Maintenance c = true

-- "once it is 4,294,967,295, no further contactor command is allowed"
abbrev pub command_ceiling : ℕ
command_ceiling = 4_294_967_295

abbrev pub command_allowed : State → ℕ → Command → Bool
command_allowed s commands c = command_in s c && ltb commands command_ceiling

-- "Override is allowed in Operational and Maintenance"
abbrev pub override_allowed : State → Bool
override_allowed Unpowered = false
override_allowed Dormant = false
override_allowed Operational = true
override_allowed Maintenance = true

-- "clear in Maintenance"
abbrev pub clear_allowed : State → Bool
clear_allowed Unpowered = false
clear_allowed Dormant = false
clear_allowed Operational = false
clear_allowed Maintenance = true

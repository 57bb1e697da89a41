-- The state of the transport between packets (01, 'Packets'; class.rs `protocol`).
use Rattle.std.specs.Prelude.{Bool, true, false, ℕ, ◌-◌, min}
use Rattle.transport.specs.declared.port.Mode.{Mode}
use Rattle.transport.specs.declared.port.Mode.TheVariants.{Command, Data, Closed}
use Rattle.transport.specs.declared.port.Port.{Port}

abbrev pub port_of : Mode → ℕ → ℕ → ℕ → Port
port_of mode tag left status = record { mode = mode; tag = tag; left = left; status = status }

-- a CBW is next
abbrev pub idle : Port
idle = port_of Command 0 0 0

-- a packet of a data stage is next: so many bytes are left, and the last engine write answered so
abbrev pub awaiting : ℕ → ℕ → ℕ → Port
awaiting tag left status = port_of Data tag left status

-- after the CSW for a valid CBW, with `reset_requested`, the session closes
abbrev pub closing : Bool → Port
closing true = port_of Closed 0 0 0
closing false = idle

-- a data stage runs in packets of up to 512
abbrev pub room_of : Port → ℕ
room_of p = min p.left 512

-- a packet of n bytes was written to the engine
abbrev pub took : Port → ℕ → ℕ → Port
took p n status = port_of p.mode p.tag (p.left - n) status

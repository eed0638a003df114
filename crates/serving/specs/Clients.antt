-- Clients: each request of a connection is one. docs/PROTOCOL.md, "Between the relay and the core".
use Rattle.std.specs.Prelude.{ℕ, ◌+◌, ◌*◌, ◌/◌, ◌%◌, ◌^◌, Bool, nat_lt}

abbrev pub client_of : (connection number : ℕ) → ℕ
client_of connection number = connection * 2 ^ 32 + number

abbrev pub connection_of : (client : ℕ) → ℕ
connection_of client = client / 2 ^ 32

abbrev pub number_of : (client : ℕ) → ℕ
number_of client = client % 2 ^ 32

-- the server asks for itself, under connection 0, which no client has
abbrev pub is_own : (client : ℕ) → Bool
is_own client = nat_lt client (2 ^ 32)

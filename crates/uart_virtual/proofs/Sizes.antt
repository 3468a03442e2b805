-- What a port takes of memory, its chip takes less of.
use Rattle.std.proofs.Common.{◌+◌, ◌<◌, ℕ, arith}
use prog.Memory.{up}

pub within_port : (s m : ℕ) → up 8 (up 1 (0 + s) + 4) < m → s < m
within_port s m h = omega (arith, h)

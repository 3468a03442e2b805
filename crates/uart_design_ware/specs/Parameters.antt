-- What CPR shows, the component parameter register.
use Rattle.std.specs.Prelude.{ℕ, ◌*◌, ◌/◌, ◌%◌}

-- how many characters the FIFOs hold: bits 16 to 23 have it in sixteens
abbrev pub fifo_characters : (cpr : ℕ) → ℕ
fifo_characters cpr = 16 * (cpr / 65536 % 256)

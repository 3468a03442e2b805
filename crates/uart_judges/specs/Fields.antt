-- What a field of a line of a recording means, or what is wrong with it.
use Rattle.std.specs.Prelude.{ℕ, ◌+◌, ◌*◌, ◌-◌, ◌^◌, Bool, true, false, List, [], ◌∷◌, drop, Option, Some, None}
use Rattle.std.specs.Prelude.{Result, Ok, Err, ◌==◌, ◌&&◌, nat_lt, if◌then◌else◌, bit_and, bytes_eq, codes}
use Rattle.std.specs.List.{before_first, position_or_len}
use Rattle.uart_language.specs.Fields.{◌>>=◌, byte_in, number_of}
use Rattle.uart_language.specs.declared.cause.Cause.{Cause}
use Rattle.uart_language.specs.declared.cause.Cause.TheVariants.{BadNumber, BadHex}
use Rattle.uart_judges.specs.declared.recording.fields.TheConstants.{SECOND, MICROSECOND, MOST_MICROSECONDS}
use Rattle.uart_language.specs.declared.limits.TheConstants.{MOST_DIGITS}
use Rattle.uart_judges.specs.declared.recording.limits.TheConstants.{MOST_REPEATS, MOST_SECONDS}
use Rattle.uart_spec.specs.declared.baud.TheConstants.{NUM_REGISTERS}

-- a number up to most, of at most 19 digits
abbrev pub number_in : ℕ → List ℕ → Result ℕ Cause
number_in most word = number_of MOST_DIGITS 0 most word

-- N of `x`: how often a read is repeated
abbrev pub repeats_in : List ℕ → Result ℕ Cause
repeats_in word = number_in MOST_REPEATS word

-- the value if it has no other bits than the mask
abbrev pub within : (mask bits : ℕ) → Result ℕ Cause
within mask bits = if bit_and bits mask == bits then Ok bits else Err BadHex

-- two hexadecimal digits, of a byte that has no other bits than the mask
unfoldable pub bits_in : ℕ → List ℕ → Result ℕ Cause
bits_in mask word = byte_in word >>= within mask

-- LEVEL: whether the interrupt line is raised, or 2 if that was not recorded
unfoldable pub level_in : List ℕ → Result (Option Bool) Cause
level_in word =
    if bytes_eq word (codes "0") then Ok (Some false)
    else if bytes_eq word (codes "1") then Ok (Some true)
    else if bytes_eq word (codes "2") then Ok None
    else Err BadNumber

-- @TIME: nanoseconds
unfoldable pub time_in : List ℕ → Result ℕ Cause
time_in [] = Err BadNumber
time_in (b ∷ digits) = if b == 64 then number_in (2 ^ 64 - 1) digits else Err BadNumber

-- ---- fields of QEMU's log

-- 0xHH: two hexadecimal digits
unfoldable pub log_byte_in : List ℕ → Result ℕ Cause
log_byte_in (a ∷ b ∷ digits) = if a == 48 && (b == 120) then byte_in digits else Err BadHex
log_byte_in other = Err BadHex

-- the offset of a register
abbrev pub register_of : ℕ → Result ℕ Cause
register_of offset = if nat_lt offset NUM_REGISTERS then Ok offset else Err BadNumber

-- 0xHH: the offset of a register
unfoldable pub log_offset_in : List ℕ → Result ℕ Cause
log_offset_in word = log_byte_in word >>= register_of

-- what is before the first such byte, or all
abbrev pub before : ℕ → List ℕ → List ℕ
before byte word = before_first (λ b. b == byte) word

-- what is behind the first such byte, or nothing
abbrev pub after : ℕ → List ℕ → List ℕ
after byte word = drop (position_or_len (λ b. b == byte) word + 1) word

-- nanoseconds
abbrev pub time_of : (seconds microseconds : ℕ) → ℕ
time_of seconds microseconds = seconds * SECOND + microseconds * MICROSECOND

-- PROCESS@SECONDS.MICROSECONDS
unfoldable pub log_time_in : List ℕ → Result ℕ Cause
log_time_in word =
    number_in (2 ^ 64 - 1) (before 64 word) >>= (λ process.
    number_in MOST_SECONDS (before 46 (after 64 word)) >>= (λ seconds.
    number_in MOST_MICROSECONDS (after 46 (after 64 word)) >>= (λ microseconds.
    Ok (time_of seconds microseconds))))

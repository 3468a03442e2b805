-- What `lsr` and `msr` report in a session: drops, line errors and changes of the modem lines.
use Rattle.std.specs.Prelude.{◌≡◌, ℕ, true, List, [], ◌∷◌, ◌++◌, filter, take, bit_and}
use Rattle.uart_call.specs.declared.call.Call.TheVariants as call
use Rattle.uart_call.specs.declared.call.Answer.TheVariants as answer
use Rattle.uart_chip.specs.declared.receiver.Character.{Character}
use Rattle.uart_spec.specs.Bits.{IsWithin, has_any}
use Rattle.uart_spec.specs.declared.registers.line_status.TheConstants.LSR
use Rattle.uart_spec.specs.declared.registers.modem_status.TheConstants.MSR
use Rattle.uart_chip.specs.Receiver.{ReceiverState}
use Rattle.uart_chip.specs.Conserved.{stands, between, entered, IsDrop}
use Rattle.uart_chip.specs.Laws.{reported_front, AllTold, changes_in}
use Rattle.uart_run.specs.Chains.{NoneIs}
use Rattle.uart_run.specs.Run.{State, machine_of, Link}

-- none of these calls is `lsr`
abbrev pub AllNoLsr : List Link → Type 0
AllNoLsr = NoneIs call.Lsr

-- none of these calls is `msr`
abbrev pub AllNoMsr : List Link → Type 0
AllNoMsr = NoneIs call.Msr

-- the receiver of a state
abbrev pub receiver_of : State → ReceiverState
receiver_of s = (machine_of s).chip.receiver

-- the changes of the modem lines among the events from s to t
abbrev pub changes_between : State → State → ℕ
changes_between s t = changes_in (machine_of s).chip.modem.lines (between (machine_of s) (machine_of t))

-- ---- from an earlier moment s to t, the state after an `lsr` or `msr` with this answer

-- promise: an `lsr` reports the parity error, framing error and break of each character that was taken or is in front;
--   without FIFO an overrun may stand for those of the character that was lost with it
-- with: TellsLine.errors
-- shown by: parity-error, dump-keeps-what-is-saved
-- refused: uart_16550/dump_empties_the_saved_bits

-- what an `lsr` with this answer reports: a drop since the earlier moment shows as the overrun flag, and the errors of
-- each character that was taken since, and of the one in front, are reported
pub record TellsLine (s t : State) (line : ℕ) : Type 0 where
  pub drop : IsDrop (machine_of s) (machine_of t) → has_any line LSR.OVERRUN_ERROR.0 ≡ true
  pub taken : List Character
  pub was_taken : filter (stands (receiver_of t)) (entered (machine_of s) (machine_of t)) ≡
      taken ++ (receiver_of t).queue
  -- the parity error, framing error and break of each character that was taken or is in front are reported, whoever
  -- looked. Without FIFO, an overrun may stand for the errors of the character that was lost with it. Bit 7 of LSR,
  -- which says that there are errors somewhere in the FIFO, is not remembered; the errors themselves are, once their
  -- characters come to the front
  pub errors : AllTold (machine_of t).chip.fifo (reported_front (receiver_of s)) line
      (taken ++ take 1 (receiver_of t).queue)

-- the overrun flag means that there was a drop since the earlier moment
abbrev pub TellsNoOtherDrop : State → State → ℕ → Type 0
TellsNoOtherDrop s t line =
    -- the overrun flag shows
    has_any line LSR.OVERRUN_ERROR.0 ≡ true → IsDrop (machine_of s) (machine_of t)

-- what an `msr` with this answer reports: each change since the earlier moment shows
abbrev pub TellsChanges : State → State → ℕ → Type 0
TellsChanges s t status = IsWithin (changes_between s t) status

-- nothing else is reported as a change
abbrev pub TellsNoOtherChange : State → State → ℕ → Type 0
TellsNoOtherChange s t status = bit_and status MSR.CHANGES.0 ≡ changes_between s t

-- ---- in a session

-- promise: the first `lsr` after a drop shows the overrun flag, and from the second on it shows the flag only then
-- with: Tells.line, Tells.only_drops
-- shown by: overrun-twice, overrun-fifo-twice
-- refused: uart_16550/ready_to_receive_saves_nothing, uart_16550/lsr_always_shows_the_overrun

-- promise: an `msr` reports each change of a modem line, of RI its trailing edge, even one that was undone, and from
--   the second on no other
-- with: Tells.changes, Tells.only_changes
-- shown by: modem-change, flaps-all-lines
-- refused: uart_16550/msr_forgets_the_saved_bits, uart_16550/peek_modem_swallows_changes

-- if the session ends with an `lsr` or `msr`, it reports what happened since the start; and if the session also
-- begins with one, what happened since that and nothing else
pub record Tells (s : State) (links : List Link) (t : State) : Type 0 where
  -- an `lsr` at the end of a session shows a drop since its beginning as the overrun flag, and reports the errors of
  -- each character that was taken since, and of the one in front
  pub line : (some : List Link) (last : Link) (value : ℕ) →
      -- this is the last call
      links ≡ some ++ last ∷ [] → AllNoLsr some →
      -- it is an `lsr`
      last.call ≡ call.Lsr →
      -- this is what it returned
      last.answer ≡ answer.Register value → TellsLine s t value
  -- an `lsr` behind an earlier one shows the overrun flag only if there was a drop since
  pub only_drops : (first : Link) (some : List Link) (last : Link) (value : ℕ) →
      -- these are the first call and the last
      links ≡ first ∷ (some ++ last ∷ []) →
      AllNoLsr some →
      -- the first is an `lsr`
      first.call ≡ call.Lsr →
      -- so is the last
      last.call ≡ call.Lsr →
      -- this is what it returned
      last.answer ≡ answer.Register value →
      TellsNoOtherDrop first.after t value
  -- an `msr` at the end of a session shows each change of a modem line since its beginning, of RI its trailing edge,
  -- even one that was undone
  pub changes : (some : List Link) (last : Link) (value : ℕ) →
      -- this is the last call
      links ≡ some ++ last ∷ [] → AllNoMsr some →
      -- it is an `msr`
      last.call ≡ call.Msr →
      -- this is what it returned
      last.answer ≡ answer.Register value → TellsChanges s t value
  -- an `msr` behind an earlier one shows no other change than those since
  pub only_changes : (first : Link) (some : List Link) (last : Link) (value : ℕ) →
      -- these are the first call and the last
      links ≡ first ∷ (some ++ last ∷ []) →
      AllNoMsr some →
      -- the first is an `msr`
      first.call ≡ call.Msr →
      -- so is the last
      last.call ≡ call.Msr →
      -- this is what it returned
      last.answer ≡ answer.Register value →
      TellsNoOtherChange first.after t value

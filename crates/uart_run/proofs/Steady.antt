-- What a call that changes no mode makes and keeps: its list is in blocks, sets the trigger level, or is that of `check_configured`. This
-- alone is proved of each call; what it does to a machine of a session, and what a judge of its list finds, follow from it.
use Rattle.uart_run.proofs.Names.{◌≡◌, ◌≢◌, ℕ, ◌≤◌, ◌*◌, Bool, true, List, [], ◌∷◌, ◌++◌, Result, Ok, Err, refl, sym, ◌∙◌, ap, take}
use Rattle.uart_run.proofs.Names.{length, arith, length-append, bit_or, common_steps, nil_from_length, or_zero_r, ByteSendError}
use Rattle.uart_run.proofs.Names.{ByteReceiveError, ConfigurationError, FifosOffError, StalledError, FifoTriggerLevel, One}
use Rattle.uart_run.proofs.Names.{saved_lsr, saved_msr, Access, Write, Language, Settings, Saving, Fields, settings_of}
use Rattle.uart_run.proofs.Names.{TryReceive, ReceivesExact, SendsExact, TrySends}
use Rattle.uart_run.proofs.Names.{SetsTrigger, level_bits, Reads, Writes, expansion, expansion_of, Call}
use Rattle.uart_run.proofs.Names.{SendsShortText}
use Rattle.uart_run.proofs.Names.{received_answer, sent_answer, exact_answer, count_answer}
use Rattle.uart_run.proofs.Names.{receive_exact_answer, read_answer}
use Rattle.uart_run.proofs.Names.{count_of, sent_of, sent_byte_of, byte_of, bytes_of, reported_by}
use Rattle.uart_run.proofs.Names.{received_by, IsLevel}
use Rattle.uart_run.proofs.Names.{meaning, outcome_of, doing_of, ChecksStored}
use Rattle.uart_calls.specs.Lists.{answer_of}
use Rattle.uart_spec.specs.declared.registers.offsets.TheConstants as offsets
use Rattle.uart_call.specs.declared.call.Call.TheVariants as call
use Rattle.uart_run.proofs.CallBlocks.{InBlocks, Makes, most_in, blocks_none, sends_exact_blocks, try_sends_blocks}
use Rattle.uart_run.proofs.CallBlocks.{try_receive_blocks, receives_exact_blocks}
use Rattle.uart_run.proofs.CallKeeps.{reads_blocks, writes_blocks}
use Rattle.uart_run.proofs.CallKeeps.{sends_each_blocks, sends_beginning_blocks, Keeps, KeepsButLsr, KeepsButMsr, saving_keeps}
use Rattle.uart_run.proofs.CheckLists.{CheckList, check_list}
use Rattle.uart_spec.specs.declared.registers.line_status.TheConstants.LSR
use Rattle.uart_run.proofs.CallBlocks.{makes_look, ready_to_send_blocks, ready_to_receive_blocks, receives_with_blocks, receives_blocks}
use Rattle.uart_run.proofs.CallBlocks.{sends_blocks}
use Rattle.uart_run.proofs.CallKeeps.{connects_blocks, reads_divisor_blocks, retriggers_blocks, checks_presence_blocks, plain_blocks}
use Rattle.uart_run.proofs.CallKeeps.{flushes_blocks}
use Rattle.uart_run.proofs.CallKeeps.{answers_read_blocks, answers_write_blocks, shows_fifo_keeps}
use Rattle.uart_run.proofs.CallKeeps.{enables_keeps, disables_keeps, dumps_keeps, takes_lsr_keeps, takes_msr_keeps}

-- the list is in blocks, which write these bytes and read those; or it sets the trigger level; or it is that of `check_configured`
pub data OfSession (fifo : Bool) (most : ℕ) (l : List Access) (ws rs : List ℕ) : Type 0 where
  in_blocks : InBlocks most l ws rs → OfSession fifo most l ws rs
  sets_level : (value : ℕ) → fifo ≡ true → IsLevel value → l ≡ Write offsets.FCR value ∷ [] → ws ≡ [] → rs ≡ [] →
      OfSession fifo most l ws rs
  as_checked : CheckList l → ws ≡ [] → rs ≡ [] → OfSession fifo most l ws rs

-- and the FIFO is taken as before, and what the statuses showed is saved, unless the call told and forgot it
pub record Steady (N M : Type 0) (f : Fields) (l : List Access) (after : Fields) (ws rs : List ℕ) : Type 0 where
  pub list : OfSession f.fifo (most_in (settings_of f)) l ws rs
  pub fifo : after.fifo ≡ f.fifo
  pub lsr : N → after.lsr ≡ bit_or f.lsr (saved_lsr l)
  pub msr : M → after.msr ≡ bit_or f.msr (saved_msr l)

-- the call changes no mode
abbrev pub IsSteady : Call → Type 0
IsSteady (call.Init config) = ⊥
IsSteady (call.InitWith config setup) = ⊥
IsSteady (call.SetFrame config) = ⊥
IsSteady (call.SetFrameWhenIdle config) = ⊥
IsSteady call.Attach = ⊥
IsSteady (call.SetBreak on) = ⊥
IsSteady (call.SetModemControl outputs) = ⊥
IsSteady (call.SetRts on) = ⊥
IsSteady (call.SetDtr on) = ⊥
IsSteady (call.Quiesce outputs fifos) = ⊥
IsSteady (call.Restore dump) = ⊥
IsSteady call.TestLoopback = ⊥
IsSteady other = Unit {0}

-- what is proved of a call, for each of its outcomes
abbrev pub SteadyCall : Call → Type 0
SteadyCall c = IsSteady c → (outcome : outcome_of (meaning c)) (f : Fields) (l : List Access) (after : Fields) →
    doing_of (meaning c) outcome f l after →
    Steady (c ≢ call.Lsr) (c ≢ call.Msr) f l after (reported_by c (answer_of (meaning c) outcome))
    (received_by c (answer_of (meaning c) outcome))

-- ---- how it is shown

pub kept : (N M : Type 0) (f : Fields) (l : List Access) (after : Fields) (ws rs : List ℕ) → Keeps f l after ws rs →
    Steady N M f l after ws rs
kept N M f l after ws rs k = record { list = in_blocks k.blocks; fifo = k.fifo; lsr = λ n. k.lsr; msr = λ n. k.msr }

-- a call that saves what it reads, and whose lists are blocks
pub moves : (N M : Type 0) (L : Language) (ws rs : List ℕ) → ((v : Settings) → Makes v L ws rs) → (f : Fields) (l : List Access)
    (after : Fields) → Saving L f l after → Steady N M f l after ws rs
moves N M L ws rs makes f l after t = kept N M f l after ws rs (saving_keeps L f after l ws rs (makes (settings_of f)) t)

-- no access is made, and the fields stay
pub nothing_made : (N M : Type 0) (f : Fields) (l : List Access) (after : Fields) → l ≡ [] → after ≡ f → Steady N M f l after [] []
nothing_made N M f l after is same = rw is (record {
  list = in_blocks (blocks_none (most_in (settings_of f)));
  fifo = ap (λ (g : Fields). g.fifo) same;
  lsr = λ n. ap (λ (g : Fields). g.lsr) same ∙ sym (or_zero_r f.lsr);
  msr = λ n. ap (λ (g : Fields). g.msr) same ∙ sym (or_zero_r f.msr);
})

pub level_bits_keep : (level : FifoTriggerLevel) → IsLevel (level_bits level)
level_bits_keep One = record { on = refl; keeps_received = refl; keeps_queued = refl }
level_bits_keep _ = record { on = refl; keeps_received = refl; keeps_queued = refl }

pub level_set : (N M : Type 0) (v : FifoTriggerLevel) (result : Result (Unit {0}) FifosOffError) (f : Fields) (l : List Access)
    (after : Fields) → SetsTrigger v result f l after → Steady N M f l after [] []
level_set N M v (Ok u) f l after (on, d) =
    let made : List Access = Write offsets.FCR (level_bits v) ∷ [] in
    let is : l ≡ made = d.whole ∙ (ap (λ zs. zs ++ d.back) d.first.0 ∙ d.second.0.is) in
    record {
      list = sets_level (level_bits v) on (level_bits_keep v) is refl refl;
      fifo = ap (λ (g : Fields). g.fifo) d.second.1 ∙ ap (λ (g : Fields). g.fifo) d.first.1;
      lsr = λ n. ap (λ (g : Fields). g.lsr) d.second.1 ∙ (ap (λ (g : Fields). bit_or g.lsr (saved_lsr d.back)) d.first.1
          ∙ (ap (λ zs. bit_or f.lsr (saved_lsr zs)) d.second.0.is ∙ sym (ap (λ zs. bit_or f.lsr (saved_lsr zs)) is)));
      msr = λ n. ap (λ (g : Fields). g.msr) d.second.1 ∙ (ap (λ (g : Fields). bit_or g.msr (saved_msr d.back)) d.first.1
          ∙ (ap (λ zs. bit_or f.msr (saved_msr zs)) d.second.0.is ∙ sym (ap (λ zs. bit_or f.msr (saved_msr zs)) is)));
    }
level_set N M v (Err e) f l after (off, is, same) = nothing_made N M f l after is same

pub stored_checked : (N M : Type 0) (outputs : ℕ) (result : Result (Unit {0}) ConfigurationError) (f : Fields) (l : List Access)
    (after : Fields) → ChecksStored outputs result f l after → Steady N M f l after [] []
stored_checked N M outputs result f l after (made, saved) = record {
  list = as_checked (check_list (settings_of f) f.config outputs result l made) refl refl;
  fifo = ap (λ (g : Fields). g.fifo) saved;
  lsr = λ n. ap (λ (g : Fields). g.lsr) saved;
  msr = λ n. ap (λ (g : Fields). g.msr) saved;
}

pub but_lsr : (N M : Type 0) (f : Fields) (l : List Access) (after : Fields) → (N → ⊥) → KeepsButLsr f l after → Steady N M f l after [] []
but_lsr N M f l after not k = record { list = in_blocks k.blocks; fifo = k.fifo; lsr = λ n. absurd (not n); msr = λ m. k.msr }

pub but_msr : (N M : Type 0) (f : Fields) (l : List Access) (after : Fields) → (M → ⊥) → KeepsButMsr f l after → Steady N M f l after [] []
but_msr N M f l after not k = record { list = in_blocks k.blocks; fifo = k.fifo; lsr = λ n. k.lsr; msr = λ m. absurd (not m) }

-- ---- what is sent and received, as the answers tell

pub try_sends_told : (byte : ℕ) (s : Settings) (result : Result (Unit {0}) ByteSendError) →
    Makes s (TrySends byte result) (sent_byte_of byte (sent_answer result)) []
try_sends_told byte s (Ok x) l t = try_sends_blocks s byte (Ok x) l t
try_sends_told byte s (Err e) l t = try_sends_blocks {T = Unit {0}} s byte (Err e) l t

pub sends_exact_told : (bytes : List ℕ) (s : Settings) (result : Result (Unit {0}) StalledError) →
    Makes s (SendsExact bytes result) (sent_of bytes (exact_answer result)) []
sends_exact_told bytes s (Ok x) l t = sends_exact_blocks s bytes (Ok x) l t
sends_exact_told bytes s (Err e) l t = sends_exact_blocks {T = Unit {0}} s bytes (Err e) l t

pub writes_told : (bytes : List ℕ) (s : Settings) (result : Result ℕ StalledError) →
    Makes s (Writes bytes result) (take (count_of (count_answer result)) bytes) []
writes_told bytes s (Ok count) l t = writes_blocks s bytes (Ok count) l t
writes_told bytes s (Err e) l t = writes_blocks s bytes (Err e) l t

pub try_receive_told : (s : Settings) (result : Result ℕ ByteReceiveError) →
    Makes s (TryReceive result) [] (byte_of (received_answer result))
try_receive_told s (Ok byte) l t = try_receive_blocks {E = ByteReceiveError} s (Ok byte) l t
try_receive_told s (Err e) l t = try_receive_blocks s (Err e) l t

pub receives_exact_told : (slots : ℕ) (s : Settings) (got : List ℕ × Result (Unit {0}) StalledError) →
    Makes s (ReceivesExact slots got.0 got.1) [] (bytes_of (receive_exact_answer got))
receives_exact_told slots s (bytes, Ok x) l t = receives_exact_blocks s slots bytes (Ok x) l t
receives_exact_told slots s (bytes, Err e) l t = receives_exact_blocks {T = Unit {0}} s slots bytes (Err e) l t

pub reads_told : (slots : ℕ) (s : Settings) (got : List ℕ × Result ℕ StalledError) →
    Makes s (Reads slots got.0 got.1) [] (bytes_of (read_answer got))
reads_told slots s (bytes, Ok count) l t = reads_blocks s slots bytes (Ok count) l t
reads_told slots s (bytes, Err e) l t = let made = reads_blocks s slots bytes (Err e) l t in rw (nil_from_length bytes t.2.0) at made

-- an expansion is at most three times as long
length-expansion : (text : List ℕ) → length (expansion text) ≤ 3 * length text
length-expansion [] = omega arith
length-expansion (byte ∷ bytes) =
    let rest = length-expansion bytes in
    let one : length (expansion_of byte) ≤ 3 = grind (arith, common_steps) in
    simp length-append (omega arith)

pub sends_text_told : (text : List ℕ) (s : Settings) (result : Result (Unit {0}) StalledError) →
    Makes s (SendsShortText text result) (sent_of (expansion text) (exact_answer result)) []
sends_text_told text s (Ok x) l (short, t) = sends_each_blocks s (expansion text) l t
sends_text_told text s (Err e) l (short, (sent, is, t)) =
    let done : e.done ≡ sent = omega (arith, is, t.0, short, length-expansion text) in
    rw done (sends_beginning_blocks s (expansion text) sent l t)

-- ---- each call

pub steady_call : (c : Call) → SteadyCall c
steady_call call.Next i o f l after d = nothing_made _ _ f l after d.0 d.1
steady_call (call.SetTriggerLevel level) i o f l after d = level_set _ _ level o f l after d
steady_call (call.CheckConfigured outputs) i o f l after d = stored_checked _ _ outputs.0 o f l after d
steady_call call.CheckPresent i o f l after d = moves _ _ _ _ _ (λ v. checks_presence_blocks v o) f l after d
steady_call call.CheckConnected i o f l after d = moves _ _ _ _ _ (λ v. connects_blocks v o) f l after d
steady_call call.ReadyToReceive i o f l after d = moves _ _ _ _ _ (λ v. ready_to_receive_blocks v o) f l after d
steady_call call.ReadyToSend i o f l after d = moves _ _ _ _ _ (λ v. ready_to_send_blocks v o) f l after d
steady_call call.TryReceive i o f l after d = moves _ _ _ _ _ (λ v. try_receive_told v o) f l after d
steady_call call.Flush i o f l after d = moves _ _ _ _ _ (λ v. flushes_blocks v o) f l after d
steady_call call.ReadReady i o f l after d = moves _ _ _ _ _ (λ v. answers_read_blocks v o) f l after d
steady_call call.WriteReady i o f l after d = moves _ _ _ _ _ (λ v. answers_write_blocks v o) f l after d
steady_call call.Ier i o f l after d = moves _ _ _ _ _ (λ v. plain_blocks v offsets.IER o refl) f l after d
steady_call call.Isr i o f l after d = moves _ _ _ _ _ (λ v. plain_blocks v offsets.ISR o refl) f l after d
steady_call call.Lcr i o f l after d = moves _ _ _ _ _ (λ v. plain_blocks v offsets.LCR o refl) f l after d
steady_call call.Mcr i o f l after d = moves _ _ _ _ _ (λ v. plain_blocks v offsets.MCR o refl) f l after d
steady_call call.Lsr i o f l after d = but_lsr _ _ f l after (λ n. n refl) (takes_lsr_keeps o f after l d)
steady_call call.Msr i o f l after d = but_msr _ _ f l after (λ n. n refl) (takes_msr_keeps o f after l d)
steady_call call.PeekModem i o f l after d = moves _ _ _ _ _ (λ v. plain_blocks v offsets.MSR o refl) f l after d
steady_call call.IsIdle i o f l after d = moves _ _ _ _ _ (λ v. makes_look v LSR.TRANSMITTER_EMPTY.0 o) f l after d
steady_call call.Spr i o f l after d = moves _ _ _ _ _ (λ v. plain_blocks v offsets.SPR o refl) f l after d
steady_call call.DllDlm i o f l after d = moves _ _ _ _ _ (λ v. reads_divisor_blocks v o.0 o.1) f l after d
steady_call call.FifoEnabled i o f l after d = kept _ _ f l after _ _ (shows_fifo_keeps o f after l d)
steady_call call.Dump i o f l after d = kept _ _ f l after _ _ (dumps_keeps o f after l d)
steady_call (call.TrySend byte) i o f l after d = moves _ _ _ _ _ (λ v. try_sends_told byte v o) f l after d
steady_call (call.Enable bits) i o f l after d = kept _ _ f l after _ _ (enables_keeps bits.0 f after l d)
steady_call (call.Disable bits) i o f l after d = kept _ _ f l after _ _ (disables_keeps bits.0 f after l d)
steady_call call.RetriggerInterrupts i o f l after d = moves _ _ _ _ _ (λ v. retriggers_blocks v) f l after d
steady_call (call.Receive slots) i o f l after d = moves _ _ _ _ _ (λ v. receives_blocks v slots o) f l after d
steady_call (call.ReceiveExact slots) i o f l after d = moves _ _ _ _ _ (λ v. receives_exact_told slots v o) f l after d
steady_call (call.ReceiveWithErrors slots) i o f l after d = moves _ _ _ _ _ (λ v. receives_with_blocks v slots o) f l after d
steady_call (call.Read slots) i o f l after d = moves _ _ _ _ _ (λ v. reads_told slots v o) f l after d
steady_call (call.Send bytes) i o f l after d = moves _ _ _ _ _ (λ v. sends_blocks v bytes.items o) f l after d
steady_call (call.SendExact bytes) i o f l after d = moves _ _ _ _ _ (λ v. sends_exact_told bytes.items v o) f l after d
steady_call (call.Write bytes) i o f l after d = moves _ _ _ _ _ (λ v. writes_told bytes.items v o) f l after d
steady_call (call.Text text) i o f l after d = moves _ _ _ _ _ (λ v. sends_text_told text.bytes v o) f l after d
steady_call _ i o f l after d = absurd i

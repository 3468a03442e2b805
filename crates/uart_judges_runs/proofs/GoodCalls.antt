-- The lists of the calls of a session: their accesses are good, where the caller gives no other cause.
use Rattle.std.proofs.Common.{◌≡◌, ℕ, Bool, true, false, ◌&&◌, List, [], ◌∷◌, ◌++◌, Result, Ok, Err, refl, sym, ◌∙◌, ap, subst}
use Rattle.std.specs.List.{AllByRecursion}
use Rattle.std.specs.Prelude.{nat_lt, ◌==◌}
use Rattle.uart_spec.specs.Bits.{has}
use Rattle.uart_spec.specs.declared.access.Access.{Access as RegisterAccess}
use Rattle.uart_spec.specs.declared.access.Access.TheVariants.{Read, Write}
use Rattle.uart_spec.specs.declared.errors.ByteSendError.{ByteSendError}
use Rattle.uart_spec.specs.declared.errors.FifosOffError.{FifosOffError}
use Rattle.uart_spec.specs.declared.errors.StalledError.{StalledError}
use Rattle.uart_spec.specs.declared.registers.fifo_control.TheConstants.FCR as fcr_bits
use Rattle.uart_spec.specs.declared.registers.fifo_trigger_level.FifoTriggerLevel.{FifoTriggerLevel}
use Rattle.uart_spec.specs.declared.registers.fifo_trigger_level.FifoTriggerLevel.TheVariants.{One}
use Rattle.uart_spec.specs.declared.registers.line_status.TheConstants.LSR as lsr_bits
use Rattle.uart_spec.specs.declared.registers.offsets.TheConstants as offsets
use Rattle.uart_16550.specs.Driver.{Fields, settings_of}
use Rattle.uart_16550.specs.Expansion.{expansion}
use Rattle.uart_16550.specs.Io.{AnswersRead, AnswersWrite, Flushes}
use Rattle.uart_16550.specs.Grammar.{Asks, Settings}
use Rattle.uart_16550.specs.Receive.{ReadyToReceive, TryReceive}
use Rattle.uart_16550.specs.Setup.{SetsTrigger, level_bits}
use Rattle.uart_16550.specs.Transmit.{ReadyToSend}
use Rattle.uart_call.specs.declared.call.Answer.{Answer}
use Rattle.uart_call.specs.declared.call.Call.{Call}
use Rattle.uart_call.specs.declared.call.Call.TheVariants as call
use Rattle.uart_calls.specs.Lists.{IsListOf}
use Rattle.uart_calls.specs.Meaning.{SendsShortText}
use Rattle.uart_judges_runs.specs.Calls.{IsSteady}
use Rattle.uart_judges_runs.specs.Causes.{AsksFor, Causes, Fits, IsSetUpFor}
use Rattle.uart_judges_runs.proofs.GoodLists as good
use Rattle.uart_judges_runs.proofs.GoodLists.{AllLead, Leads, MayRead, differ}

module _ (c : Causes) (line : ℕ) (f : Fields) (set : IsSetUpFor c line f) where
  abbrev s : Settings
  s = settings_of f

  abbrev Leading : List RegisterAccess → Type 0
  Leading l = Leads c line f.fifo s.checks false false l

  none_made : (l : List RegisterAccess) → l ≡ [] → Leading l
  none_made l is = subst (λ (l : List RegisterAccess). Leading l) (sym is) (good.turn c line f.fifo s.checks).none

  level_on : (level : FifoTriggerLevel) → has (level_bits level) fcr_bits.FIFO_ENABLE.0 ≡ true
  level_on One = refl
  level_on _ = refl

  level_list : (v : FifoTriggerLevel) (r : Result (Unit {0}) FifosOffError) (after : Fields) (l : List RegisterAccess) →
      SetsTrigger v r f l after → Leading l
  level_list v (Ok u) after l (on, d) =
      let is : l ≡ Write offsets.FCR (level_bits v) ∷ [] = d.whole ∙ (ap (λ zs. zs ++ d.back) d.first.0 ∙ d.second.0.is) in
      subst (λ (l : List RegisterAccess). Leading l) (sym is)
      (good.writes_control c line f.fifo s.checks set.dlab set.fifos (level_bits v) (level_on v))
  level_list v (Err e) after l (off, is, same) = none_made l is

  look : (bits : ℕ) (outcome : Bool) → AllLead c line f.fifo s.checks s (Asks offsets.LSR bits outcome)
  look bits outcome = good.leads_asks c line f.fifo s.checks set.dlab set.fifos s offsets.LSR bits outcome refl refl refl
      (differ offsets.LSR offsets.MSR refl)

  one_list : (register answer : ℕ) → nat_lt register 8 ≡ true → (register == offsets.DATA) ≡ false →
      (register ≡ offsets.ISR → c.isr_is_read ≡ true) → MayRead c line f.fifo s.checks register → (l : List RegisterAccess) →
      l ≡ Read register answer ∷ [] → Leading l
  one_list register answer real other may msr l is =
      subst (λ (l : List RegisterAccess). Leading l) (sym is)
      (good.reads c line f.fifo s.checks set.dlab set.fifos register answer real other may msr)

  -- a call that reads ISR is made only where it may be
  may_read : (b : Bool) → (b ≡ false → true ≡ false) → b ≡ true
  may_read true e = refl
  may_read false e = absurd (let g : true ≡ false = e refl in cc)

  -- and so is one that reads MSR
  may_ask : (b d e : Bool) → (b ≡ false → d ≡ true) → (e ≡ false → true ≡ false) → (b && e) ≡ false → d ≡ false → ⊥
  may_ask true d true p q n g = absurd (cc)
  may_ask true d false p q n g = absurd (let x : true ≡ false = q refl in cc)
  may_ask false d e p q n g = absurd (let x : true ≡ false = sym (p refl) ∙ g in cc)

  ready_list : {T E : Type 0} (r : Result T E) (l : List RegisterAccess) → ReadyToReceive r s l → Leading l
  ready_list (Ok x) l t = look lsr_bits.DATA_READY.0 true l t
  ready_list (Err e) l t = look lsr_bits.DATA_READY.0 false l t

  ready_to_send_list : {T : Type 0} (r : Result T ByteSendError) (l : List RegisterAccess) → ReadyToSend r s l → Leading l
  ready_to_send_list (Ok x) l t = good.leads_send_hit c line f.fifo s.checks set.dlab set.fifos s refl l t
  ready_to_send_list (Err e) l t = good.leads_refused c line f.fifo s.checks set.dlab set.fifos s refl e l t

  try_receive_list : {E : Type 0} (r : Result ℕ E) (l : List RegisterAccess) → TryReceive r s l → Leading l
  try_receive_list (Ok byte) l t = good.leads_hit c line f.fifo s.checks set.dlab set.fifos s byte l t
  try_receive_list (Err e) l t = good.leads_miss c line f.fifo s.checks set.dlab set.fifos s l t

  flushes_list : {T : Type 0} (r : Result T StalledError) (l : List RegisterAccess) → Flushes r s l → Leading l
  flushes_list (Ok x) l t = good.leads_waits c line f.fifo s.checks set.dlab set.fifos s lsr_bits.TRANSMITTER_EMPTY.0 true l t
  flushes_list (Err e) l t = good.leads_waits c line f.fifo s.checks set.dlab set.fifos s lsr_bits.TRANSMITTER_EMPTY.0 false l t.1

  read_ready_list : (r : Result Bool StalledError) (l : List RegisterAccess) → AnswersRead r s l → Leading l
  read_ready_list (Ok ready) l t = look lsr_bits.DATA_READY.0 ready l t
  read_ready_list (Err e) l t = absurd t

  write_ready_list : (r : Result Bool StalledError) (l : List RegisterAccess) → AnswersWrite r s l → Leading l
  write_ready_list (Ok true) l t = good.leads_send_hit c line f.fifo s.checks set.dlab set.fifos s refl l t
  write_ready_list (Ok false) l t = good.leads_send_miss c line f.fifo s.checks set.dlab set.fifos s refl l t
  write_ready_list (Err e) l t = absurd t

  text_list : (text : List ℕ) (r : Result (Unit {0}) StalledError) (l : List RegisterAccess) →
      (c.bytes_are_cut ≡ false → AllByRecursion (Fits line) (expansion text)) → SendsShortText text r s l → Leading l
  text_list text (Ok x) l fits (short, t) =
      good.leads_sends_each c line f.fifo s.checks set.dlab set.fifos s refl (expansion text) fits l t
  text_list text (Err e) l fits (short, (sent, is, t)) =
      good.leads_sends_beginning c line f.fifo s.checks set.dlab set.fifos s refl (expansion text) sent fits l t

  -- each call
  pub good_list : (x : Call) (after : Fields) (l : List RegisterAccess) (a : Answer) → IsSteady x → AsksFor c line x →
      IsListOf x f l a after → Leads c line f.fifo s.checks false false l
  good_list call.Next after l a i k h = none_made l h.does.0
  good_list (call.SetTriggerLevel v) after l a i k h = level_list v h.outcome after l h.does
  good_list (call.CheckConfigured outputs) after l a i k h =
      good.leads_check c line f.fifo s.checks set.dlab set.fifos s
      (may_read c.isr_is_read k.isr) f.config outputs.0 h.outcome l h.does.0
  good_list call.CheckPresent after l a i k h = good.leads_presence c line f.fifo s.checks set.dlab set.fifos s h.outcome l h.does.0
  good_list call.CheckConnected after l a i k h = let t = h.does.0 in one_list offsets.MSR t.0 refl refl
      (differ offsets.MSR offsets.ISR refl) (λ is. may_ask c.cts_is_unchecked s.checks c.msr_is_read set.checks k.msr) l t.2
  good_list call.ReadyToReceive after l a i k h = ready_list h.outcome l h.does.0
  good_list call.ReadyToSend after l a i k h = ready_to_send_list h.outcome l h.does.0
  good_list call.TryReceive after l a i k h = try_receive_list h.outcome l h.does.0
  good_list call.Flush after l a i k h = flushes_list h.outcome l h.does.0
  good_list call.ReadReady after l a i k h = read_ready_list h.outcome l h.does.0
  good_list call.WriteReady after l a i k h = write_ready_list h.outcome l h.does.0
  good_list call.Ier after l a i k h = one_list offsets.IER h.outcome refl refl (differ offsets.IER offsets.ISR refl)
      (differ offsets.IER offsets.MSR refl) l h.does.0.is
  good_list call.Isr after l a i k h = one_list offsets.ISR h.outcome refl refl (λ is. may_read c.isr_is_read k.isr)
      (differ offsets.ISR offsets.MSR refl) l h.does.0.is
  good_list call.Lcr after l a i k h = one_list offsets.LCR h.outcome refl refl (differ offsets.LCR offsets.ISR refl)
      (differ offsets.LCR offsets.MSR refl) l h.does.0.is
  good_list call.Mcr after l a i k h = one_list offsets.MCR h.outcome refl refl (differ offsets.MCR offsets.ISR refl)
      (differ offsets.MCR offsets.MSR refl) l h.does.0.is
  good_list call.Lsr after l a i k h = one_list offsets.LSR h.does.0 refl refl (differ offsets.LSR offsets.ISR refl)
      (differ offsets.LSR offsets.MSR refl) l h.does.1
  good_list call.Msr after l a i k h = one_list offsets.MSR h.does.0 refl refl (differ offsets.MSR offsets.ISR refl)
      (λ is. may_ask c.cts_is_unchecked s.checks c.msr_is_read set.checks k.msr) l h.does.1
  good_list call.PeekModem after l a i k h = one_list offsets.MSR h.outcome refl refl (differ offsets.MSR offsets.ISR refl)
      (λ is. may_ask c.cts_is_unchecked s.checks c.msr_is_read set.checks k.msr) l h.does.0.is
  good_list call.IsIdle after l a i k h = look lsr_bits.TRANSMITTER_EMPTY.0 h.outcome l h.does.0
  good_list call.Spr after l a i k h = one_list offsets.SPR h.outcome refl refl (differ offsets.SPR offsets.ISR refl)
      (differ offsets.SPR offsets.MSR refl) l h.does.0.is
  good_list call.DllDlm after l a i k h =
      let t = h.does.0 in
      subst (λ (l : List RegisterAccess). Leading l) (sym t.1)
      (good.leads_divisor c line f.fifo s.checks set.dlab set.fifos t.0 h.outcome.0 h.outcome.1)
  good_list call.FifoEnabled after l a i k h = none_made l h.does.1.0
  good_list call.Dump after l a i k h =
      subst (λ (l : List RegisterAccess). Leading l) (sym h.does.is)
      (good.leads_dump c line f.fifo s.checks set.dlab set.fifos (may_read c.isr_is_read k.isr)
      (may_ask c.cts_is_unchecked s.checks c.msr_is_read set.checks k.msr) h.does.lcr h.does.lsr h.does.msr h.outcome)
  good_list (call.TrySend byte) after l a i k h =
      good.leads_try_sends c line f.fifo s.checks set.dlab set.fifos s refl byte h.outcome k.bytes l h.does.0
  good_list (call.Enable bits) after l a i k h =
      subst (λ (l : List RegisterAccess). Leading l) (sym h.does.1)
      (good.leads_enables c line f.fifo s.checks set.dlab set.fifos h.does.0 bits.0 k.interrupts)
  good_list (call.Disable bits) after l a i k h =
      subst (λ (l : List RegisterAccess). Leading l) (sym h.does.1)
      (good.leads_disables c line f.fifo s.checks set.dlab set.fifos h.does.0 _)
  good_list call.RetriggerInterrupts after l a i k h =
      let t = h.does.0 in
      subst (λ (l : List RegisterAccess). Leading l) (sym t.1) (good.leads_retriggers c line f.fifo s.checks set.dlab set.fifos t.0)
  good_list (call.Receive slots) after l a i k h =
      good.leads_receives c line f.fifo s.checks set.dlab set.fifos s slots h.outcome l h.does.0
  good_list (call.ReceiveExact slots) after l a i k h =
      good.leads_receives_exact c line f.fifo s.checks set.dlab set.fifos s slots h.outcome.0 h.outcome.1 l h.does.0
  good_list (call.ReceiveWithErrors slots) after l a i k h =
      good.leads_receives_with c line f.fifo s.checks set.dlab set.fifos s slots h.outcome l h.does.0
  good_list (call.Read slots) after l a i k h =
      good.leads_reads c line f.fifo s.checks set.dlab set.fifos s slots h.outcome.0 h.outcome.1 l h.does.0
  good_list (call.Send bytes) after l a i k h =
      good.leads_sends c line f.fifo s.checks set.dlab set.fifos s refl bytes.items h.outcome k.bytes l h.does.0
  good_list (call.SendExact bytes) after l a i k h =
      good.leads_sends_exact c line f.fifo s.checks set.dlab set.fifos s refl bytes.items h.outcome k.bytes l h.does.0
  good_list (call.Write bytes) after l a i k h =
      good.leads_writes_some c line f.fifo s.checks set.dlab set.fifos s refl bytes.items h.outcome k.bytes l h.does.0
  good_list (call.Text text) after l a i k h = text_list text.bytes h.outcome l k.bytes h.does.0
  good_list _ after l a i k h = absurd i

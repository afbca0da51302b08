use Rattle.std.proofs.Common.{ap, arith, chars, is_ok}
use Rattle.ifmt.proofs.BindLemmas.{changed}
use Rattle.ifmt.proofs.binding.fill.Goals as goal
use Rattle.ifmt.proofs.binding.fill.Goals.{in-Text+in_ok-entry-in-Text, in-Number+in_ok-entry-in-Number}
use Rattle.ifmt.proofs.binding.fill.Goals.{in-Decimal+in_ok-entry-in-Decimal}
use Rattle.ifmt.proofs.binding.fill.Goals.{in-Float+in_ok-entry-in-Float, in-List+in_ok-entry-in-List}
use Rattle.ifmt.proofs.binding.fill.Goals.{in-Bad}

pub returns-clause-ok : goal.returns-clause-ok
returns-clause-ok g c = elim c.match-word.branch [
  | in-Text+in_ok-entry-in-Text w ↦ rw (w.in-Text.is, w.context-is)
      (changed _ (λ value is. is) c.args.context.now _ (chars w.in-Text.name.now) w.in_ok-entry-in-Text.field-0.now
      w.set_debug_display.new.self _ w.in_ok-entry-in-Text.ensures.value
      (w.entry.follows.holds w.set_debug_display.new.self (ap is_ok w.in_ok-entry-in-Text.was)) w.set_debug_display.ensures)
  | in-Number+in_ok-entry-in-Number w ↦ rw (w.in-Number.is, w.context-is)
      (changed _ (λ value is. is) c.args.context.now _ (chars w.in-Number.name.now) w.in_ok-entry-in-Number.field-0.now
      w.set_integer.new.self _ w.in_ok-entry-in-Number.ensures.value
      (w.entry-in-Number.follows.holds w.set_integer.new.self (ap is_ok w.in_ok-entry-in-Number.was)) w.set_integer.ensures)
  | in-Decimal+in_ok-entry-in-Decimal w ↦ rw (w.in-Decimal.is, w.context-is)
      (changed _ (λ value is. is) c.args.context.now _ (chars w.in-Decimal.name.now) w.in_ok-entry-in-Decimal.field-0.now
      w.set_float.new.self _ w.in_ok-entry-in-Decimal.ensures.value
      (w.entry-in-Decimal.follows.holds w.set_float.new.self (ap is_ok w.in_ok-entry-in-Decimal.was)) w.set_float.ensures)
  | in-Float+in_ok-entry-in-Float w ↦ rw (w.in-Float.is, w.context-is)
      (changed _ (λ value is. is) c.args.context.now _ (chars w.in-Float.name.now) w.in_ok-entry-in-Float.field-0.now
      w.set_float-in-Float.new.self _ w.in_ok-entry-in-Float.ensures.value
      (w.entry-in-Float.follows.holds w.set_float-in-Float.new.self (ap is_ok w.in_ok-entry-in-Float.was)) w.set_float-in-Float.ensures)
  | in-List+in_ok-entry-in-List w ↦ rw (w.in-List.is, w.context-is)
      (changed _ (λ value is. is) c.args.context.now _ (chars w.in-List.name.now) w.in_ok-entry-in-List.field-0.now
      w.set_iter.new.self _ w.in_ok-entry-in-List.ensures.value
      (w.entry-in-List.follows.holds w.set_iter.new.self (ap is_ok w.in_ok-entry-in-List.was)) w.set_iter.ensures)
  | in-Bad w ↦ grind arith
]

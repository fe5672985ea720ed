use Rattle.std.proofs.{Common.rules, lemmas.Fmt.length-decimal-le}
use Rattle.row_faults.proofs.fault_text.write_number.Goals as goal

pub write_digits-start-requires : goal.write_digits-start-requires
write_digits-start-requires g c = search (rules, length-decimal-le 10)

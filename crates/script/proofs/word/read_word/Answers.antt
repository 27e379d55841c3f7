-- Where a word was read byte by byte, the field is that word.
use Rattle.std.proofs.Common.{codes, sym, ap, arith, rules}
use Rattle.std.proofs.lemmas.Slice.Eq.{text_from_reads}
use Rattle.script.specs.Words.{word_of}
use Rattle.script.proofs.word.read_word.Goals as goal

pub returns-in-reopen : goal.returns-in-reopen
returns-in-reopen c = ap word_of (sym (text_from_reads c.args.field.now (codes "reopen") (omega arith) (search rules)))

pub returns-in-company : goal.returns-in-company
returns-in-company c = ap word_of (sym (text_from_reads c.args.field.now (codes "company") (omega arith) (search rules)))

pub returns-in-confirm : goal.returns-in-confirm
returns-in-confirm c = ap word_of (sym (text_from_reads c.args.field.now (codes "confirm") (omega arith) (search rules)))

pub returns-in-replace : goal.returns-in-replace
returns-in-replace c = ap word_of (sym (text_from_reads c.args.field.now (codes "replace") (omega arith) (search rules)))

pub returns-in-performance : goal.returns-in-performance
returns-in-performance c = ap word_of (sym (text_from_reads c.args.field.now (codes "performance") (omega arith) (search rules)))

pub returns-in-installation : goal.returns-in-installation
returns-in-installation c = ap word_of (sym (text_from_reads c.args.field.now (codes "installation") (omega arith) (search rules)))

use Rattle.std.proofs.Common.{rules}
use Rattle.command_words.proofs.Numerals.{number-read, number-unread}
use Rattle.command_words.proofs.numbers.number_of.Goals as goal

pub returns-in_err-number : goal.returns-in_err-number
returns-in_err-number c = search (rules, number-unread c.args.digits c.args.least c.args.most c.args.text.now c.parse.result c.parse.ensures.value.0)

pub returns-then-number-most : goal.returns-then-number-most
returns-then-number-most c = search (rules, number-read c.args.digits c.args.least c.args.most c.in_ok-number.number c.args.text.now c.parse.result c.parse.ensures.value.0)

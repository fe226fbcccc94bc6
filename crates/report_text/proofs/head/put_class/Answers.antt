use Rattle.std.proofs.Common.{◌≡◌, map, rules, append_assoc}
use Rattle.std.proofs.lemmas.Result.{IfOk-equal}
use Rattle.report_text.specs.Spelling.{spaced}
use Rattle.report_text.specs.Reports.{members, text_at}
use Rattle.report_text.proofs.Members.{members-by_position, members-within}
use Rattle.report_text.proofs.Spaced.{join-cons}
use Rattle.report_text.proofs.head.put_class.Goals as goal

pub put_members-requires : goal.put_members-requires
put_members-requires c = rw c.requires (members-within c.args.rows.now c.args.profile.now)

pub returns : goal.returns
returns c =
    let texts : map (text_at c.args.rows.now) c.args.members.now ≡ members c.args.rows.now c.args.profile.now = rw c.requires (members-by_position c.args.rows.now c.args.profile.now) in
    rw (join-cons 9 (spaced c.args.profile.now) (members c.args.rows.now c.args.profile.now), ← texts) (search (rules, IfOk-equal, append_assoc))

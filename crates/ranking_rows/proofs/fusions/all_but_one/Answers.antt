use Rattle.std.proofs.Common.{◌≡◌, length, replicate}
use Rattle.std.proofs.lemmas.List.Elements.{All-set, All-replicate}
use Rattle.ranking_rows.proofs.fusions.all_but_one.Goals as goal

pub returns : goal.returns
returns c = All-set (λ marks. length marks ≡ 3) (replicate 1001 c.args.most) c.args.place c.args.one c.requires.one_width (All-replicate (λ marks. length marks ≡ 3) 1001 c.args.most c.requires.most_width)

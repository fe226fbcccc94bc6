use Rattle.refutation.specs.Typologies.{found_of, cuts_of, certificates_of}
use Rattle.report_text.specs.Posed.{posed}
use Rattle.report_text.specs.Reports.{typology_report}
use Rattle.report_text.proofs.ReadBack.{report-read, answer-from_report}
use Rattle.report_text.proofs.laws.answer_is_read_back.Goals as goal

pub returns : goal.returns
returns c = λ tableau given typology answer acceptable plain pairs printable short read.
    let languages = found_of typology.languages in
    let certificates = certificates_of typology.certificates in
    let cuts = cuts_of typology.cuts in
    answer-from_report typology (typology_report tableau (posed tableau given) languages certificates cuts) answer
    (report-read tableau given languages certificates cuts acceptable plain pairs printable short) read

-- What the program's places and states stand for in the grammar.
use Rattle.qfs_model_grammar.specs.LinePlace as Behind
use Rattle.qfs_model_grammar.specs.LinePlace.{LinePlace}
use Rattle.qfs_script.specs.declared.place.LinePlace as P
use Rattle.qfs_script.specs.declared.place.LinePlace.TheVariants as At

unfoldable pub place_meant : P.LinePlace → LinePlace
place_meant At.Start = Behind.Start
place_meant At.Qfs = Behind.Qfs
place_meant At.Layout = Behind.Layout
place_meant At.Servers = Behind.Servers
place_meant At.Term = Behind.Term
place_meant At.Audit = Behind.Audit
place_meant At.Phase = Behind.Phase
place_meant At.Actor = Behind.Actor
place_meant At.Order = Behind.Order

use Rattle.std.proofs.Common.{inl, inr, refl, rules, string_bytes}
use Rattle.std.specs.Io.KnownBytes.{append_known}
use Rattle.hack_base.specs.Streams.{stream_of}
use Rattle.hack_load.specs.ContextView.{context_view}
use Rattle.hack_run.specs.Worlds.{host_view}
use Rattle.hack_run.specs.InternalExtensions.{extends_then}
use Rattle.hack_run.proofs.RunLemmas.{list_ends, list_shows}
use Rattle.hack_run.specs.Shown.{looks_of, scene_at, scene_on}
use Rattle.hack_run.proofs.GatherLemmas.{wrote_gathered, wrote_nothing}
use Rattle.hack_run.proofs.ShownLists.{line_unwritten, list_said, refused_kept}
use Rattle.hack_run.proofs.print_list.print_list.Goals as goal

pub returns-clause-done : goal.returns-clause-done
returns-clause-done g c =
    list_ends c.end_of_list.result _ _ _ _ _ g.C.Caller.tells (context_view c.args.cx.now) c.args.stable (string_bytes c.args.host.now.env.now.rustup) c.args.host.now.term.now.warn (host_view g.C.Caller g.O.Sink c.args.host.now) (host_view g.C.Caller g.O.Sink c.hand_to_lister-came.new.host)
    c.in_ok-gathered.gathered.items c.hand_to_lister-came.new.gathered.items (g.O.Sink.contents c.write_last-flushed.new.out)
    c.in_ok-gathered.ensures c.end_of_list.ensures.ok c.hand_to_lister-came.ensures.done c.write_last-flushed.ensures.all

pub returns-clause-made : goal.returns-clause-made
returns-clause-made g c = λ t.
    list_shows (context_view c.args.cx.now) c.args.stable (string_bytes c.args.host.now.env.now.rustup) (host_view g.C.Caller g.O.Sink c.args.host.now) (host_view g.C.Caller g.O.Sink c.hand_to_lister-came.new.host)
    c.in_ok-gathered.gathered.items c.hand_to_lister-came.new.gathered.items c.write_last-flushed.new.gathered.items (g.O.Sink.contents c.write_last-flushed.new.out)
    c.in_ok-gathered.ensures (c.hand_to_lister-came.ensures.made t) c.write_last-flushed.ensures.kept
    (extends_then (g.O.Sink.contents c.args.host.now.out.now) (g.O.Sink.contents c.hand_to_lister-came.new.host.out.now) (g.O.Sink.contents c.write_last-flushed.new.out) c.hand_to_lister-came.ensures.grown c.write_last-flushed.ensures.grown)

pub returns-clause-shown : goal.returns-clause-shown
returns-clause-shown g c = λ t.
    let last = c.hand_to_lister-came.new.host in
    let contents = g.O.Sink.contents in
    list_said c.hand_to_lister-came.result.failed c.hand_to_lister-came.result.short c.write_last-flushed.result c.hand_to_lister-came.result.refused c.hand_to_lister-came.result.fault c.end_of_list.result g.C.Caller.tells (context_view c.args.cx.now) c.args.stable (string_bytes c.args.host.now.env.now.rustup) (looks_of c.args.host.now.term.now) (looks_of last.term.now)
    (append_known (contents c.args.host.now.out.now) c.in_ok-gathered.gathered.items) (append_known (contents last.out.now) c.hand_to_lister-came.new.gathered.items)
    (scene_on g.C.Caller g.O.Sink g.E.Sink c.args.host.now) (scene_on g.C.Caller g.O.Sink g.E.Sink last) (scene_at (g.C.Caller.calls last.caller.now) g.O.Sink g.E.Sink c.write_last-flushed.new.out last.err.now) c.hand_to_lister-came.ensures.shown c.hand_to_lister-came.ensures.unplanned c.end_of_list.ensures.comes
    (line_unwritten (g.O.Sink.failed c.args.host.now.out.now) (g.O.Sink.failed last.out.now) (g.O.Sink.failed c.write_last-flushed.new.out) c.hand_to_lister-came.result.short c.write_last-flushed.result c.hand_to_lister-came.result.failed c.hand_to_lister-came.ensures.missed c.write_last-flushed.ensures.counted)
    c.hand_to_lister-came.ensures.looks refl refl
    (refused_kept c.hand_to_lister-came.result.refused c.hand_to_lister-came.ensures.idle c.hand_to_lister-came.ensures.unplanned (λ e same none.
    wrote_nothing (contents c.args.host.now.out.now) (contents last.out.now) (contents c.write_last-flushed.new.out) c.in_ok-gathered.gathered.items c.hand_to_lister-came.new.gathered.items c.write_last-flushed.new.gathered.items c.in_ok-gathered.ensures same none.1.2 c.write_last-flushed.ensures.kept
    (extends_then (contents c.args.host.now.out.now) (contents last.out.now) (contents c.write_last-flushed.new.out) c.hand_to_lister-came.ensures.grown c.write_last-flushed.ensures.grown)))
    (wrote_gathered (stream_of g.O.Sink c.args.host.now.out.now) (stream_of g.O.Sink last.out.now) (stream_of g.O.Sink c.write_last-flushed.new.out) c.in_ok-gathered.gathered.items c.hand_to_lister-came.new.gathered.items c.write_last-flushed.new.gathered.items c.write_last-flushed.result
    c.in_ok-gathered.ensures c.write_last-flushed.ensures.kept (extends_then (contents c.args.host.now.out.now) (contents last.out.now) (contents c.write_last-flushed.new.out) c.hand_to_lister-came.ensures.grown c.write_last-flushed.ensures.grown)
    c.write_last-flushed.ensures.all c.hand_to_lister-came.ensures.missed.counted c.write_last-flushed.ensures.counted)

pub returns-in_err-gathered-clause-shown : goal.returns-in_err-gathered-clause-shown
returns-in_err-gathered-clause-shown g c = λ t. inr (inl (search rules, refl, refl))

mod ReadingsTaken
mod GatewayTurns
mod GatewayExchanges

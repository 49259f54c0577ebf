mod Choice
